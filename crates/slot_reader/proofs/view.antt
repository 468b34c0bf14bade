-- The laws of `leaf_row::view`.
pub mod Laws
