-- What the contracts of `transform::leaf_rows` cite beside the walk itself.
pub mod Leaf
