-- Laws of the definitions in specs/.
pub mod Cuts
pub mod Visits
pub mod PieceWalk
pub mod Counts
pub mod Due
pub mod Accepted
pub mod InsideWalk
