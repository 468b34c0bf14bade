-- The laws of `lafkuno`.
pub mod Laws
pub mod FrameCalls
pub mod TripCalls
pub mod Sums
pub mod SameCalls
