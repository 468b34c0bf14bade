-- What the tables of the finished array go by.
pub mod Written
pub mod Names
