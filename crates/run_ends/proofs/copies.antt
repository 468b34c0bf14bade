-- The laws of `run_ends::copies`.
pub mod Extend
pub mod Joined
pub mod Written
pub mod Table
