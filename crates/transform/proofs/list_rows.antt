-- What copies of a list of numbers go by.
pub mod Laws
