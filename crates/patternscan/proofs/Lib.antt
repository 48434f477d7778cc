-- In the order in which they build on each other.
pub mod Decision
pub mod Letters
pub mod OneTree
pub mod Loops
pub mod Claims
