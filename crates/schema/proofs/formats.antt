-- The laws that the proofs of `formats` cite.
pub mod Laws
pub mod Types
