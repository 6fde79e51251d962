pub mod Ordinary
pub mod Ledger
pub mod Exact
pub mod Claim
