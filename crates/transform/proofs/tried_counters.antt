-- What the counters of an order that is tried and then made go by.
pub mod Laws
