-- The definitions that the contracts of `source_rules` cite; the rules themselves are those of `array_data`.
pub mod Source
pub mod nodes
pub mod kinds
