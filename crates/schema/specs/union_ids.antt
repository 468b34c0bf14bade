-- The definitions that the contracts of `formats::union_ids` cite.
pub mod Ids
