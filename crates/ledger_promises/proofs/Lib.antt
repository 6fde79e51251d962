-- The promises, and the laws that they alone stand on.
pub mod Covered
pub mod Tight
pub mod Lit
pub mod Summed
