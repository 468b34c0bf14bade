-- What the steps of a walk at nodes with children go by.
pub mod Laws
