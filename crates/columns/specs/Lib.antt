pub mod Column
pub mod Line
pub mod Promises
