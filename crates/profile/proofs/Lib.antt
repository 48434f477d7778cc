-- In the order in which they build on each other.
pub mod Ways
pub mod Machine
pub mod Answers
pub mod Verdicts
pub mod Examples
pub mod Claims
