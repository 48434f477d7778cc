-- In the order in which they build on each other.
pub mod Readings
pub mod Exact
