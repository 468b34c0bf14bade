-- Laws of `sums::patterns`.
pub mod Laws
