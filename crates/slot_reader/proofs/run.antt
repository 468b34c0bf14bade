-- The laws of `leaf_row::run`.
pub mod Laws
pub mod Format
