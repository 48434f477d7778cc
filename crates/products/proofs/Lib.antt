-- In the order in which they build on each other.
pub mod Interleavings
pub mod Numbers
pub mod Pairs
pub mod Sums
pub mod Words
pub mod Claims
