pub mod Exact
pub mod Refusals
pub mod Bits
pub mod Steps
pub mod ByBits
pub mod Sizes
pub mod Answers
pub mod ZeroSpread
