-- The laws of `finishing`.
pub mod Reading
pub mod Lookups
pub mod Copied
pub mod Given
pub mod Names
pub mod SourceNames
pub mod KeptValues
pub mod Finished
pub mod Again
pub mod Orders
pub mod Nodes
pub mod Accepted
pub mod Inside
pub mod Join
