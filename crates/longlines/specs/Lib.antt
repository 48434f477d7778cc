-- In the order in which to read them.
pub mod Holding
pub mod Claims
