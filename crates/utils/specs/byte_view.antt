-- The definitions that the contracts of `byte_view` cite.
pub mod View
