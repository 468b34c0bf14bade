-- What the contracts of `nested_rows` cite beside the walk itself: its steps that a function takes together.
pub mod Numbers
