-- In the order in which they build on each other.
pub mod Ways
pub mod Last
pub mod Histories
pub mod Claims
