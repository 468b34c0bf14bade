-- What nulls of a sparse union of numbers go by.
pub mod Laws
