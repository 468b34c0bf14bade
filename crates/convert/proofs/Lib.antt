-- What the functions of the converter come to.
pub mod Laws
pub mod Walked
pub mod Called
pub mod Viewed
mod Laid
pub mod CalledView
pub mod convert_lists
