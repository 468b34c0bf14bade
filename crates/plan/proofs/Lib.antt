-- What the opening's words go by.
pub mod Laws
pub mod Words
pub mod Codes
pub mod Bases
pub mod Nodes
pub mod Typed
