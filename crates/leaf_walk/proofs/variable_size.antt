-- What the walk at byte strings and lists goes by.
pub mod Laws
pub mod Lists
