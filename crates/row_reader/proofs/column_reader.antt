-- What the proofs of `column_reader` go by, and that what it reads is the Columnar Format's row.
pub mod Laws
pub mod Reading
