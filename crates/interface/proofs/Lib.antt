-- Laws of the definitions in specs/, and the promises.
pub mod Numbers
pub mod Listed
pub mod Lent
pub mod Promises
