-- Laws of `aggregates`.
pub mod Types
pub mod Rows
pub mod Tallies
pub mod Both
pub mod Answers
pub mod Theorems
