-- What an opening comes to on lent memory.
pub mod Open
pub mod Kept
pub mod Entries
pub mod Fits
pub mod PartsDue
pub mod Ask
