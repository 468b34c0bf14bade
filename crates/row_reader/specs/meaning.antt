-- The definitions that the laws of `row_reader::meaning` cite.
pub mod Meaning
pub mod RunRows
