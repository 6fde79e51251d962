-- Laws that the promises stand on, and the promises.
pub mod Budget
pub mod Named
pub mod Reached
pub mod Dyadic
pub mod Laid
pub mod Loads
pub mod Meaning
pub mod PastUnread
pub mod SumUnmet
