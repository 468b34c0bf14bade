-- What a caller sees of a question about a column that is written anew.
pub mod Answer
