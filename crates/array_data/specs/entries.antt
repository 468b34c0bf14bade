-- The definitions that the contracts of `array_data::entries` cite.
pub mod Entries
