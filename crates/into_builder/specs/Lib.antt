-- What the contracts of `into_builder` cite beside finishing itself, which is that of `refinement`.
pub mod Answer
pub mod counts
pub mod places
pub mod buffers
