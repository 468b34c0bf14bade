-- What the questions about room go by, and what their answers say of the orders.
pub mod Laws
pub mod Bytes
pub mod Placeless
pub mod Asked
