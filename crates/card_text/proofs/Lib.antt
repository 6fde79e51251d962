-- Laws of the definitions in specs/.
pub mod Accepting
pub mod UpTo
pub mod Entry
pub mod Fitting
pub mod Limited
pub mod LimitedCurve
pub mod Places
pub mod ReadingAnswer
pub mod RowsRead
pub mod Stands
pub mod WritingAnswer
