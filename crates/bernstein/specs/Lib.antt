pub mod Affine
pub mod DeCasteljau
pub mod Bernstein
pub mod WholeSum
pub mod Promises
