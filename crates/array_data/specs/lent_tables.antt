-- The definitions that the contracts of `array_data::lent_tables` cite.
pub mod Lent
