-- In the order in which they build on each other.
pub mod Fields
pub mod Kept
pub mod Digits
pub mod Claims
