-- In the order in which to read them.
pub mod Packed
pub mod Claims
