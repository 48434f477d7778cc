-- In the order in which to read them.
pub mod Written
pub mod Claims
