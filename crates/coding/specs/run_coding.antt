-- Rows and runs over bytes (02, W1).
pub mod Rows
pub mod Writes
