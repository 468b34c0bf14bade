-- The definitions that the contracts of `walk::plan_words` cite; the walk itself is that of crate `walk`.
pub mod Target
