-- Laws of `array_data::node_words`.
pub mod Laws
