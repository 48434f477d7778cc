-- In the order in which they build on each other.
pub mod Rows
pub mod Labels
pub mod Lengths
pub mod Examples
