-- The walks of the encoder to runs and of the expansion back (02, W1).
pub mod Encode
pub mod Expand
