-- Laws of `cell_sums`.
pub mod Laws
pub mod Plain
pub mod Steps
