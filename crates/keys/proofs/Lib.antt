-- In the order in which they build on each other.
pub mod Stepping
pub mod Tables
