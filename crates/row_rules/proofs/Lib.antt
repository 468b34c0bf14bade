-- The laws of `row_rules`.
pub mod Laws
mod Gather
pub mod Links
pub mod Sizes
