-- The laws of `column_reader::runs`.
pub mod Laws
