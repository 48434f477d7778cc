-- In the order in which they build on each other.
pub mod Theory
pub mod Numbers
pub mod Language
pub mod Marked
pub mod Size
pub mod Letters
pub mod Arcs
pub mod Examples
pub mod Claims
