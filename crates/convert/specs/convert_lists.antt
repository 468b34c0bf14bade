-- The converter between lists and list-views (02, W4).
pub mod Exact
pub mod Listing
pub mod Turned
pub mod Viewing
pub mod Laid
pub mod ToList
pub mod ToView
pub mod ViewTables
