-- In the order in which to read them.
pub mod Summaries
pub mod Claims
