-- In the order in which they build on each other.
pub mod Files
pub mod Ways
pub mod Others
pub mod Exact
pub mod Examples
pub mod Claims
