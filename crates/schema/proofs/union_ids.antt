-- The laws that the proofs of `formats::union_ids` cite.
pub mod Laws
pub mod Read
pub mod Same
pub mod Examples
