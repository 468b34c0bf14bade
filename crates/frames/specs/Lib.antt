-- The definitions that the contracts and theorems of `frames` cite.
pub mod Frames
pub mod Sides
pub mod Slots
pub mod Box
pub mod float_order
