-- The numbers of an answer, written one after the other.
pub mod Numbers
