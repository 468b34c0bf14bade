-- The laws of runs: the encoder's and the expansion's.
pub mod Those
pub mod Parted
pub mod Same
pub mod Picked
pub mod Encode
pub mod Fewest
pub mod Expand
pub mod Examples
