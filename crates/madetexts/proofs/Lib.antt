-- In the order in which they build on each other.
pub mod Values
pub mod Filling
pub mod Answers
pub mod Symbols
pub mod Claims
pub mod Examples
