-- In the order in which they build on each other.
pub mod Loading
pub mod Clipped
pub mod Carried
pub mod Ways
