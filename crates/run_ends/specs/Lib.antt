-- The definitions that the contracts and theorems of `run_ends` cite.
pub mod Lookup
pub mod Clip
pub mod copies
