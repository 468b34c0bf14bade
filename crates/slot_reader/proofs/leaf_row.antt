-- The laws that the proofs of `leaf_row` cite.
pub mod Laws
