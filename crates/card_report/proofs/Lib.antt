-- Laws of the definitions in specs/, and the promises.
pub mod Answer
pub mod Promises
