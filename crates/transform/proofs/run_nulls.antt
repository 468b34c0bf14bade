-- What nulls of run ends over numbers go by.
pub mod Laws
