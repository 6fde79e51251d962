pub mod Rounding
pub mod Fraction
pub mod Promises
