-- The walk of the converter between widths (02, W13).
pub mod Convert
pub mod Ready
pub mod Nodes
pub mod Call
pub mod target_rules
