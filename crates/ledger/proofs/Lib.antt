-- Laws of the definitions in specs/, and the proof of the claim.
pub mod Stretch
pub mod Steps
pub mod Evaluation
pub mod Demand
