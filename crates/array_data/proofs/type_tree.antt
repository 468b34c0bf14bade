-- The laws of `type_tree`.
pub mod Ids
pub mod Shaped
pub mod ByKind
pub mod Lent
pub mod Covered
pub mod Same
pub mod Source
