-- Laws of `cell_sums::cells`.
pub mod Codes
pub mod Rows
