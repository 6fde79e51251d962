-- Laws that the promises stand on, and the promises.
pub mod Searching
pub mod Promises
