-- The definitions that the contracts of `into_builder::buffers` cite.
pub mod Names
