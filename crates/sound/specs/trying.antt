-- What a walk that only tries starts from.
pub mod Alike
