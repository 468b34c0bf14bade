-- The walk that writes a dictionary column anew with the entries in use (02, W9).
pub mod Walk
pub mod Plain
