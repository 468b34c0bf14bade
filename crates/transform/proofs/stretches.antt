-- What copies by stretches go by.
pub mod Laws
