-- Laws that the promises stand on, and the promises.
pub mod LinesRead
pub mod LinesStand
pub mod CardReads
pub mod Promises
