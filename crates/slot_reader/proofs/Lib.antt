-- Laws of `slot_reader`.
pub mod Codes
pub mod Laws
