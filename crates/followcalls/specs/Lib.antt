-- In the order in which to read them.
pub mod Calls
pub mod Histories
pub mod Claims
