-- The proof of the claim, and of its corollary for cards.
pub mod SumIsTrue
pub mod Card
