-- What a node's data goes by, code by code.
pub mod Laws
