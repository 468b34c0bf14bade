-- The definitions that the contracts of `array_data` cite.
pub mod Tables
pub mod Sources
pub mod Rules
pub mod NodeKinds
pub mod Typed
pub mod type_tree
pub mod lent_tables
pub mod entries
pub mod node_words
