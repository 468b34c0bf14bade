-- What the lengths and null counts of the finished array go by.
pub mod Nulls
