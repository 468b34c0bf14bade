-- What code that walks goes by.
pub mod Names
pub mod Offsets
pub mod Laws
