-- Why an order is explained.
pub mod State
pub mod Laws
