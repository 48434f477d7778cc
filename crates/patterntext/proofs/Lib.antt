-- In the order in which they build on each other.
pub mod Answers
pub mod Examples
pub mod Claims
