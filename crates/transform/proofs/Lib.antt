-- What the two orders go by.
pub mod Laws
pub mod Long
