-- The promises, and laws that other crates' promises stand on.
pub mod OhmsExact
pub mod LoadOhms
pub mod EndPoints
pub mod GoodPieces
pub mod EqualAnswers
pub mod EqualFractions
pub mod PastUnread
pub mod BoundsLeast
pub mod ZeroPast
pub mod Flags
