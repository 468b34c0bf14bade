-- Laws of `cell_sums::blocks`.
pub mod Words
pub mod Sums
