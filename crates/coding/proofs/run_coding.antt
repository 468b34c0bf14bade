-- Laws of `run_coding`.
pub mod Laws
