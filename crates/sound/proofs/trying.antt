-- What a copy answers does not depend on the nulls that are counted.
pub mod Laws
pub mod Near
