-- What finishing comes to on lent memory, and what its tables describe.
pub mod Finish
pub mod Shows
