-- What the proofs of `row_reader::row_pair` go by, and what it tells.
pub mod Leaves
pub mod Types
pub mod Rows
pub mod Answers
