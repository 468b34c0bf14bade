-- What the contracts of `batch_walk` cite beside the walk by stretches, which is that of crate `batch`.
pub mod Plain
pub mod Side
pub mod Head
pub mod Ends
pub mod Fall
pub mod Rows
pub mod Texts
