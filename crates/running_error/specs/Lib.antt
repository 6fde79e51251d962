pub mod Claim
pub mod Card
