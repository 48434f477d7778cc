-- In the order in which to read them.
pub mod Meanings
pub mod Claims
