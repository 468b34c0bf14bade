-- The definitions that the contracts of `coding` cite.
pub mod run_coding
pub mod run_walks
pub mod Counted
pub mod Encode
pub mod Expand
pub mod Planned
