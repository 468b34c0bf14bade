-- What the grounds of parts go by.
pub mod Laws
