pub mod Card
pub mod Reading
pub mod Writing
pub mod Results
pub mod Inner
