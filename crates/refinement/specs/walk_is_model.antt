-- What a destination's memory holds, and when it holds a destination of the model.
pub mod Memory
pub mod Holds
pub mod Lent
