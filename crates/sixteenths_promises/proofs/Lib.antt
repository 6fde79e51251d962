-- The promises.
pub mod Promises
pub mod Entries
