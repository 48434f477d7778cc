-- In the order in which they build on each other.
pub mod Splits
pub mod Parts
pub mod Over
pub mod Claims
