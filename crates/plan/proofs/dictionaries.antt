-- What the proofs of `plan::dictionaries` go by.
pub mod Laws
pub mod Keys
pub mod Typed
pub mod Examples
