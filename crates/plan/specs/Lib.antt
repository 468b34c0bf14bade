-- The definitions that the contracts and laws of `plan` cite.
pub mod Plan
pub mod Opened
pub mod dictionaries
pub mod parts
pub mod grounds
