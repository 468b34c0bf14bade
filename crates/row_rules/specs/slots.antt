-- The definitions that the contracts of `row_rules::slots` cite.
pub mod Slots
