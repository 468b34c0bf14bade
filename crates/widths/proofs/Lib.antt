-- What the functions of the converter come to, and the theorems on it.
pub mod Tried
pub mod Called
pub mod Theorems
pub mod Again
pub mod Laid
pub mod Numbers
pub mod Back
