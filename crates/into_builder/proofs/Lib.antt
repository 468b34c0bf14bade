-- What finishing goes by.
pub mod Whole
