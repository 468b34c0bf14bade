-- The definitions that the contracts of `slot_reader` cite.
pub mod Slots
pub mod leaf_row
pub mod view
pub mod run
