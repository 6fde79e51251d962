-- Laws of the definitions in specs/, and the promises.
pub mod Digits
pub mod Decode
pub mod Lines
pub mod Offset
pub mod Placed
pub mod Put
pub mod Promises
mod Filling
