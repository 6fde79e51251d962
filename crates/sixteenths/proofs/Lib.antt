-- Laws of the definitions in specs/.
pub mod Table
pub mod Lifted
pub mod Blocks
pub mod Powers
pub mod Summing
pub mod Reading
pub mod Answers
pub mod Loads
pub mod Passes
