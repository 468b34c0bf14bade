-- The definitions that the contracts of `plan::dictionaries` cite; the tests themselves are those of `model`.
pub mod Sources
