-- One column stored wider or narrower (W13).
pub mod Widths
pub mod Converted
pub mod Fitting
pub mod Back
pub mod OneCopy
pub mod Layout
pub mod Examples
pub mod UnionExamples
