-- In the order in which they build on each other.
pub mod Backwards
pub mod Rounds
pub mod Hope
pub mod Claims
