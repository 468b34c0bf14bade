-- What the tests of a plan go by.
pub mod Laws
