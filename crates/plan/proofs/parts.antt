-- The laws that the proofs of `parts` cite, and those of the parts themselves.
pub mod Laws
pub mod Placed
pub mod Words
