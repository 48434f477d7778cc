-- In the order in which to read them.
pub mod Splitting
pub mod Claims
