-- Laws of the definitions in specs/.
pub mod QueryFacts
pub mod Lists
pub mod Refused
pub mod Answers
