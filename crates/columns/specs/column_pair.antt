-- The definitions that the contracts of `column_pair` cite.
pub mod Pair
