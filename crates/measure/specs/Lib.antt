-- What the contracts of `measure` cite beside the questions themselves, which are those of `orders` and `opening`.
pub mod Answer
