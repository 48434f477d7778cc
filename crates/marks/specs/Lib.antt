-- In the order in which to read them.
pub mod Marks
pub mod Claims
