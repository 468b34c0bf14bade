-- The laws and theorems of `frames`.
pub mod Frames
pub mod Sides
pub mod Slots
pub mod Box
pub mod Rows
