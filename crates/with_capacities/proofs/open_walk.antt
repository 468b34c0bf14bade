-- What the walk of an opening goes by.
pub mod Laws
