-- Laws of `refinement`.
pub mod walk_is_model
pub mod log_in_room
pub mod plan_is_type
pub mod orders
pub mod opening
pub mod finishing
