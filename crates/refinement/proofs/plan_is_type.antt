-- The laws of `refinement::plan_is_type`.
pub mod Codes
pub mod Children
pub mod Planted
pub mod Worded
pub mod Lent
pub mod Self
pub mod OneTree
pub mod Kids
pub mod Opened
