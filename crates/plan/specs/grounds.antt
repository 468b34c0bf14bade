-- What the contracts of `parts::grounds` cite beside the parts themselves.
pub mod Verdict
