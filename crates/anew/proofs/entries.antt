-- The laws of reclaimed dictionaries.
pub mod Ranks
pub mod Built
pub mod Copies
pub mod Chosen
pub mod Reclaim
pub mod Twice
pub mod Examples
