-- What naming the child of a list-view goes by.
pub mod Laws
pub mod Named
