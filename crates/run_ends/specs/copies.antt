-- The definitions that the theorems of `run_ends::copies` cite.
pub mod Extend
