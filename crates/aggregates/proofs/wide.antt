-- Laws of `wide`.
pub mod Products
