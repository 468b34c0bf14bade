-- What the writes of a walk go by.
pub mod Laws
pub mod Bytes
