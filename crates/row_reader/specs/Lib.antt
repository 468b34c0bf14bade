-- The definitions that the contracts of `row_reader` cite.
pub mod Walk
pub mod meaning
pub mod column_reader
pub mod row_pair
pub mod runs
