-- What the proofs of `source_rules` go by.
pub mod From
pub mod Fields
pub mod Node
pub mod Union
