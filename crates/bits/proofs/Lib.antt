-- The laws that the proofs of `bits` share.
pub mod Laws
pub mod Puts
pub mod Steps
