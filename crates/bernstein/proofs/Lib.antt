-- Laws of the definitions in specs/, and the promise.
pub mod Table
pub mod EveryMap
pub mod Elevate
pub mod Semiring
pub mod Exact
pub mod Subdivision
pub mod Elevation
pub mod BernsteinSum
pub mod Bounds
pub mod Rationals
pub mod Promises
pub mod Convex
pub mod Curve
pub mod Rounded
pub mod WholeSum
pub mod Unrounded
pub mod WholeWeight
