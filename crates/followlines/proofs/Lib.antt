-- In the order in which they build on each other.
pub mod Long
pub mod Ways
pub mod Writing
pub mod Exact
