-- In the order in which they build on each other.
pub mod Numbered
pub mod Claims
