-- The definitions that the contracts of `into_builder::places` cite.
pub mod Places
