pub mod Limits
pub mod Verdict
pub mod Box
pub mod Walk
pub mod Search
pub mod Results
pub mod Piece
pub mod Inner
