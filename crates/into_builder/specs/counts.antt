-- The definitions that the contracts of `into_builder::counts` cite.
pub mod Counts
