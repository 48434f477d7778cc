-- In the order in which they build on each other; what belongs to no one function.
pub mod Ways
pub mod Combining
pub mod Answers
pub mod Claims
