-- The definitions that the contracts of `column_reader` cite.
pub mod Column
