-- In the order in which they build on each other.
pub mod Lanes
pub mod Eights
pub mod Parts
