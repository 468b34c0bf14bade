-- The laws that the proofs of `schema` cite.
pub mod Counts
pub mod Due
pub mod Laws
pub mod Shapes
pub mod Trees
pub mod Depth
pub mod Known
