-- What the counters of an order at a leaf go by.
pub mod Laws
