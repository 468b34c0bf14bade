-- A whole join as a caller makes it, over what the contracts of its entry points cite.
pub mod Openings
pub mod Join
pub mod Built
pub mod Based
pub mod Said
pub mod Stored
pub mod Wide
pub mod Items
pub mod Rust
pub mod Gap
pub mod Written
