-- In the order in which to read them.
pub mod Claims
pub mod mirror
