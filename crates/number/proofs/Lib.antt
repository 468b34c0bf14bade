-- The laws of `number`.
pub mod Laws
pub mod Signs
