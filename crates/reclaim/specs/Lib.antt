-- The definitions that the contracts of `reclaim` cite (02, W9).
pub mod Reclaim
pub mod used_entries
pub mod reclaim_walk
