-- The definitions that the contracts of `recode` cite.
pub mod Recode
