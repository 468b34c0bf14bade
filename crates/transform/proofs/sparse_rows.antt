-- What a copy of a sparse union of numbers goes by.
pub mod Laws
pub mod Fields
