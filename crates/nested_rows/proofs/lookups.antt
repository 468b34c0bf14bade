-- What the look-ups of a walk go by.
pub mod Laws
