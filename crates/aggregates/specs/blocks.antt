-- The definitions that the contracts of `cell_sums::blocks` cite.
pub mod Blocks
