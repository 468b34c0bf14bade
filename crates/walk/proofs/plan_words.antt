-- What code that writes goes by.
pub mod Laws
