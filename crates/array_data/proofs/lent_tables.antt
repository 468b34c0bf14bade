-- What the proofs of `array_data::lent_tables`, and of code over the lent tables, go by.
pub mod Laws
