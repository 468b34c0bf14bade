-- The child of a list-view, named where it stands.
pub mod Names
