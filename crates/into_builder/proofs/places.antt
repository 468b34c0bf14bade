-- What the places of the finished array go by.
pub mod Spots
