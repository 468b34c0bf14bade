-- Laws of `fractions`.
pub mod Euclid
pub mod Terms
