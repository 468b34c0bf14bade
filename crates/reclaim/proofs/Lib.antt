-- What a reclaiming leaves, and the theorems on it.
pub mod Placeless
pub mod Answered
pub mod Rows
pub mod Runs
pub mod Entries
pub mod Fills
pub mod Uses
pub mod Plans
pub mod Theorems
pub mod Exact
pub mod Again
