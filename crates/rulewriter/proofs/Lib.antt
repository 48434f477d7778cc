-- In the order in which they build on each other.
pub mod Parts
pub mod Apart
pub mod States
pub mod Values
pub mod Claims
