-- The definitions that the contracts of `array_data::node_words` cite.
pub mod Words
