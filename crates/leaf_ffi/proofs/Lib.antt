-- The laws of `leaf_ffi`.
pub mod Laws
