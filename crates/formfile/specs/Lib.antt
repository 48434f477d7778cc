-- In the order in which to read them.
pub mod Files
pub mod Claims
