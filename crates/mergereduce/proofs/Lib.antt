-- In the order in which they build on each other.
pub mod Kept
pub mod Trim
pub mod Only
pub mod Law
pub mod Examples
pub mod Claims
