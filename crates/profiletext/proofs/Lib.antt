-- In the order in which they build on each other.
pub mod Lengths
pub mod Whole
pub mod Examples
pub mod Claims
