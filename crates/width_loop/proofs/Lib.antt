-- The laws of `width_loop`.
pub mod Laws
pub mod Settled
pub mod Own
pub mod Clips
pub mod Rules
pub mod Here
pub mod Fits
pub mod Turns
