-- What the contracts of `leaf_walk::variable_size` cite beside the walk itself: a list's offsets.
pub mod Lists
