-- The definitions that the contracts of `number` cite.
pub mod Number
pub mod Sizes
