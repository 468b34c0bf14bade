-- What the opening goes by.
pub mod Laws
pub mod Tried
