-- An order walked by stretches.
pub mod Stretch
pub mod Rise
pub mod Dense
pub mod Batch
pub mod Example
pub mod batch_walk
