-- What the contracts of `transform::list_rows` cite beside the walk itself.
pub mod Stretch
