-- The definitions that the contracts of `leaf_row::run` cite.
pub mod Rows
