-- Why the functions that look for a stop find it.
pub mod Laws
pub mod Nodes
pub mod Whole
