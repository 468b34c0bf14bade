-- The laws of the converter between lists and list-views.
pub mod Laid
pub mod Named
pub mod Viewed
pub mod OneDictionary
pub mod One
pub mod Fresh
pub mod Listed
pub mod Grounds
pub mod Stretches
pub mod Back
pub mod Examples
