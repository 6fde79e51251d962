-- Laws of the definitions in specs/, and the promises.
pub mod Truth
pub mod Whole
pub mod Order
pub mod Quotient
pub mod Divisible
pub mod Rational
pub mod RationalOrder
pub mod Fractions
pub mod Division
pub mod Machine
pub mod Estimate
