-- A plain column as runs, and a run-end column as a plain one (W1).
pub mod Runs
pub mod Picked
pub mod Coding
pub mod Examples
