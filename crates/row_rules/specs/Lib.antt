-- The definitions that the contracts of `row_rules` cite.
pub mod Rules
pub mod slots
