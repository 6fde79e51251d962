pub mod Limits
pub mod Choice
pub mod Settings
pub mod Results
