-- The definitions that the contracts of `source_rules::kinds` cite; the rules themselves are those of `array_data`.
pub mod Rows
