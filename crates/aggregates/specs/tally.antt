-- The definitions that the contracts of `tally` cite.
pub mod Sums
pub mod Cells
