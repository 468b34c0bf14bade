-- The laws of `recode`.
pub mod Blocks
pub mod Laws
pub mod Masks
