-- Laws of `array_data::entries`.
pub mod Laws
