-- What the walk at leaves goes by.
pub mod Laws
pub mod Zeros
pub mod Widths
