-- The laws of `byte_view`.
pub mod Laws
