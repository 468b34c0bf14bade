-- What a node says of the nulls that it was handed.
pub mod Step
