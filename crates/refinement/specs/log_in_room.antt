-- When the lent room holds a destination's memory.
pub mod Room
pub mod Reach
