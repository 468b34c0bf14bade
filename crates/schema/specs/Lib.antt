-- The definitions that the contracts of `schema` cite: lent type trees.
pub mod Tree
pub mod formats
pub mod union_ids
