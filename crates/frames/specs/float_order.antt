-- The definitions that the contracts and laws of `frames::float_order` cite.
pub mod Order
