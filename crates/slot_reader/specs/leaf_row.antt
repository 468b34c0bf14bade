-- The definitions that the contracts of `leaf_row` cite.
pub mod Reading
