-- What the contracts of the converter's own functions cite.
pub mod Made
