-- The laws of `utils`.
pub mod Pieces
pub mod Laws
pub mod TryExtendOffsets
