-- The entries of a dictionary that the keys of rows use, as definitions that the contracts cite.
pub mod Keys
pub mod Chosen
