pub mod Weights
pub mod Sixteenths
pub mod Inner
