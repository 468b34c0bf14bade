-- The laws of `frames::float_order`.
pub mod Order
pub mod Weak
