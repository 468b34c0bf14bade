-- The definitions that the contracts of `sound` cite.
pub mod trying
