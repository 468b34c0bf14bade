-- Laws of `stretches`.
pub mod FirstAbove
pub mod Stretch
