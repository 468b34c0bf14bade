-- The laws of `columnar`.
pub mod Items
pub mod FirstAbove
pub mod Kept
pub mod WiderKinds
pub mod Wider
pub mod Widen
pub mod WiderExamples
pub mod Kids
pub mod Test
pub mod Examples
