pub mod Value
pub mod Bridge
pub mod Results
pub mod Inner
