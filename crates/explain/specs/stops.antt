-- What stopped an order: the node, the row, and the numbers that clash.
pub mod Why
pub mod Copy
pub mod Nulls
pub mod Parts
pub mod Order
pub mod Table
pub mod Said
pub mod Examples
