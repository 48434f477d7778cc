-- In the order in which they build on each other.
pub mod FewSets
pub mod Refusals
pub mod Claims
