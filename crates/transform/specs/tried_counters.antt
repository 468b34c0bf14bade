-- What the contracts of `transform::tried_counters` cite.
pub mod Beyond
