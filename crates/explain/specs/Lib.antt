-- What the functions that explain an order cite beside the definition.
pub mod stop_walks
pub mod nulls
pub mod stops
pub mod Explains
pub mod Sizes
