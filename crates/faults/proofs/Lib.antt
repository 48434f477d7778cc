-- In the order in which they build on each other.
pub mod First
pub mod Turns
pub mod Ways
