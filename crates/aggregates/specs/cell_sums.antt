-- The definitions that the contracts of `cell_sums` cite.
pub mod Numbers
pub mod Steps
