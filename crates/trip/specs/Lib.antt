-- A trip's orders as one: what they come to, and how the code walks them.
pub mod Trip
pub mod Walk
pub mod Answer
pub mod Said
