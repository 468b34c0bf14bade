-- What the contracts of `transform::numbers` cite beside the walk itself.
pub mod Plan
