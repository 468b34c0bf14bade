-- The contracts cite the definitions of `convert_lists`.
pub mod convert_lists
pub mod child_names
