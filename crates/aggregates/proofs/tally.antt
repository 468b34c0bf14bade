-- Laws of `tally`.
pub mod Integers
pub mod Totals
pub mod Sums
