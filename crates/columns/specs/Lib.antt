-- The definitions that the contracts of `columns` cite.
pub mod Grounds
pub mod column_pair
