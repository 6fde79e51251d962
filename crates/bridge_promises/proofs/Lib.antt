-- The promises, and the laws that they alone stand on.
pub mod Value
pub mod Spread
pub mod Promises
pub mod Numbers
