-- What the contracts of `transform::sparse_rows` cite beside the walk itself.
pub mod Sparse
