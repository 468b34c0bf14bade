-- A dictionary column with only the entries in use (W9).
pub mod Used
pub mod Reclaimed
pub mod Examples
