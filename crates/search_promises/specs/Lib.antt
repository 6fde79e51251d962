pub mod Pieces
pub mod Promises
