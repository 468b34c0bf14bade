-- The form of the calls that write one column anew outside a join (02, W1).
pub mod runs
pub mod entries
pub mod lists
pub mod widths
pub mod Anew
pub mod ResultPlan
pub mod Stood
pub mod result_plan
