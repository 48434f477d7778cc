-- In the order in which they build on each other.
pub mod Reader
pub mod Rules
pub mod Loops
pub mod Claims
