-- The definitions that the contracts of `target_rules` cite.
pub mod Target
