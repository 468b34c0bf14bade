-- The definitions that the laws of `type_tree` cite.
pub mod Lent
