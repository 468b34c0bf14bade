-- The laws of `target_rules`.
pub mod Codes
pub mod Before
pub mod Types
pub mod Rules
pub mod Turned
pub mod Inverse
pub mod Exact
