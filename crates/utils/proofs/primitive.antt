-- The laws of `primitive`.
pub mod Laws
