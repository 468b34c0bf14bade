-- The definitions that the contracts of `formats` cite.
pub mod Code
pub mod Types
