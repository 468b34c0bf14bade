-- The laws of `column_pair`.
pub mod Pair
