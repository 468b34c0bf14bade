-- What the contracts of `transform` cite beside the orders themselves, which are those of `refinement`.
pub mod Answer
pub mod leaf_rows
pub mod list_rows
pub mod numbers
pub mod sparse_rows
pub mod tried_counters
