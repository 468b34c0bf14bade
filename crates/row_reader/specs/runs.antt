-- The definitions that the contracts of `column_reader::runs` cite.
pub mod Answers
