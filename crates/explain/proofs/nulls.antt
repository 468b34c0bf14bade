-- Why the functions that look for a stop of nulls find it.
pub mod Laws
