-- The definitions that the contracts of `aggregates` cite.
pub mod cell_sums
pub mod cells
pub mod blocks
pub mod stretches
pub mod tally
pub mod fractions
pub mod wide
pub mod patterns
pub mod Report
pub mod Shape
