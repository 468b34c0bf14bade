-- Columns of the Arrow Columnar Format: rows, types, arrays, how a row is read, and what a source must obey.
-- Nothing here knows of copying, joining or any program.
pub mod Row
pub mod Types
pub mod Array
pub mod Entries
pub mod Plain
pub mod View
pub mod ListView
pub mod List
pub mod Union
pub mod RunEnd
pub mod Dictionary
pub mod Reading
pub mod Kids
pub mod Wider
pub mod Formed
pub mod Test
pub mod Written
pub mod Examples
