-- In the order in which they build on each other.
pub mod Singles
pub mod Turns
pub mod Tables
pub mod Claims
pub mod Examples
