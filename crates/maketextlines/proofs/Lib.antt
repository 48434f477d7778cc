-- In the order in which they build on each other.
pub mod Readings
pub mod Writing
pub mod Long
pub mod Exact
pub mod Claims
