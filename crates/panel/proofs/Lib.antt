-- Laws of the definitions in specs/, and the promises.
pub mod Lengths
pub mod Call
pub mod Promises
