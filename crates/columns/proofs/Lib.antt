-- The laws of `columns`.
pub mod Laws
pub mod Grounds
pub mod Itself
pub mod Answers
pub mod Before
