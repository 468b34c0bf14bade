-- What a node says of the rows that it was handed.
pub mod Step
