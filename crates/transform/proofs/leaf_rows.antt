-- What copies at a leaf go by.
pub mod Laws
pub mod Entries
pub mod Text
