-- In the order in which they build on each other.
pub mod Texts
pub mod Searching
pub mod Same
pub mod Faulting
pub mod Verdicts
pub mod Staying
pub mod Examples
pub mod Claims
pub mod Functions
