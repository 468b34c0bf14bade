-- What orders come to on lent memory, and when the parts hold a destination.
pub mod Sound
pub mod Order
pub mod Fits
pub mod Counted
pub mod Measure
pub mod Written
