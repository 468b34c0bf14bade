-- The laws of `row_rules::slots`.
pub mod Laws
pub mod Tables
pub mod Views
pub mod Tests
pub mod Whole
