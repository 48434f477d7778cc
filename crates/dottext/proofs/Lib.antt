-- In the order in which they build on each other.
pub mod Claims
pub mod Drawn
pub mod Examples
