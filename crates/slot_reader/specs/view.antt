-- The definitions that the contracts of `leaf_row::view` cite.
pub mod Place
