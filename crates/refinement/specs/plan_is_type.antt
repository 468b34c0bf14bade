-- What a plan has of a type tree, an order with a source's tables, and sources that an opening takes.
pub mod Planted
pub mod Taken
