-- What the proofs of `source_rules::kinds` go by.
pub mod Laws
pub mod Links
