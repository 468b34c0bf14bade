-- The definitions that the contracts of `leaf_ffi` cite.
pub mod Calls
