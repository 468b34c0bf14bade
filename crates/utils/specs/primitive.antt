-- The definitions that the contracts of `primitive` cite.
pub mod Primitive
