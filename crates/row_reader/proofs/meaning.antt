-- Laws of `row_reader::meaning`.
pub mod Child
pub mod Words
pub mod Slots
pub mod Views
pub mod Runs
pub mod Rows
