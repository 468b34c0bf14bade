-- The definitions that the contracts of `row_reader::row_pair` cite.
pub mod Same
