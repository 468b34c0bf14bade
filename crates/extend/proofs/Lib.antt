-- What the cycles of a copy and of nulls go by.
pub mod Laws
pub mod Listed
pub mod NullLaws
