-- The laws of `run_ends`.
pub mod Search
pub mod Left
pub mod Laws
pub mod Table
