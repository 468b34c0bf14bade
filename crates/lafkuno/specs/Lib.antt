-- The definitions that the contracts of `lafkuno` cite.
pub mod Calls
pub mod Beside
pub mod Trips
pub mod Sums
pub mod Same
