-- The bytes due in a part, and which part is the first that cannot hold them.
pub mod Laws
