-- What nulls at a leaf go by.
pub mod Laws
