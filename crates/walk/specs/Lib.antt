-- The walk of an order: definitions that the contracts of the code cite.
pub mod State
pub mod Log
pub mod Leaves
pub mod Copy
pub mod Nulls
pub mod plan_words
