-- Laws of `row_reader`.
pub mod Laws
pub mod meaning
