-- The walks of W1 fill their results.
pub mod Encode
pub mod Expand
pub mod Fills
pub mod Plans
