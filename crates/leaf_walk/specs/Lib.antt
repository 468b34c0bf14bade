-- What the contracts of `leaf_walk` cite beside the walk itself, which is that of crate `walk`.
pub mod Join
pub mod Walks
pub mod variable_size
