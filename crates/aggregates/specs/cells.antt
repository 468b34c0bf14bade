-- The definitions that the contracts of `cell_sums::cells` cite.
pub mod Cells
