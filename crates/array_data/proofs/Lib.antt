-- The laws of `array_data`.
pub mod Names
pub mod Typed
pub mod type_tree
