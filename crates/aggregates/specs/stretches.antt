-- The definitions that the contracts of `stretches` cite.
pub mod Ends
