-- What stopped an order is what its ground says.
pub mod Says
pub mod Above
pub mod Copies
pub mod NullOrders
pub mod Shorts
pub mod Orders
pub mod Answers
pub mod Trips
pub mod Examples
