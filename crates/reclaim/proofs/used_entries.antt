-- The laws of entries in use.
pub mod Laws
pub mod Rewrites
pub mod Chosen
