-- What a copy of one node of numbers goes by.
pub mod Laws
