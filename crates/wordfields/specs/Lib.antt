-- In the order in which to read them.
pub mod Words
pub mod Claims
