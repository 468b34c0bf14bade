-- The definitions that the contracts of `wide` cite.
pub mod Value
