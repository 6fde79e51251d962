-- Laws of the definitions in specs/.
pub mod Answer
pub mod Lent
pub mod Numbers
pub mod Points
pub mod Stored
