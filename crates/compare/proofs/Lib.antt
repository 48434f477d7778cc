-- In the order in which they build on each other.
pub mod Conditions
pub mod Pairs
pub mod Values
pub mod Answers
pub mod Exchange
pub mod Examples
pub mod Claims
pub mod Ways
