-- The definitions that the contracts of `sums::patterns` cite.
pub mod Parts
