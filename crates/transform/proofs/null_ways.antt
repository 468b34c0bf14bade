-- What the shorter ways of nulls go by.
pub mod Laws
