-- In the order in which they build on each other.
pub mod Whole
pub mod Lengths
