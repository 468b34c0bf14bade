-- A list column as a list-view column, and a list-view column as a list column (W4).
pub mod Laid
pub mod Named
pub mod Viewed
pub mod Fresh
pub mod Listed
pub mod Examples
