-- The definitions that the contracts of `width_loop` cite beside those of its walk.
pub mod Steps
pub mod Here
