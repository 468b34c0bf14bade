-- What the walk of a reclaiming goes by.
pub mod Laws
pub mod Runs
pub mod Kept
