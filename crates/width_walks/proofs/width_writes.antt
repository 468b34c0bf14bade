-- The laws of `width_writes`.
pub mod Sizes
