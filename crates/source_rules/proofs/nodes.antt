-- What the proofs of `source_rules::nodes` go by.
pub mod Laws
pub mod RunEnds
