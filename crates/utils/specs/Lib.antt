-- The definitions that the contracts of `utils` cite.
pub mod Pieces
pub mod Offsets
pub mod Extension
pub mod TryExtendOffsets
pub mod primitive
pub mod byte_view
