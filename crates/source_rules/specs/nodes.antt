-- The definitions that the contracts of `source_rules::nodes` cite; the rules themselves are those of `array_data`.
pub mod Rows
