-- That the room holds the memory that a log leaves.
pub mod Writes
pub mod Step
pub mod Applied
pub mod Packed
pub mod Bytes
pub mod Uses
pub mod Found
pub mod Copies
pub mod Fills
pub mod Closure
pub mod Orders
