-- In the order in which they build on each other.
pub mod Long
pub mod Examples
pub mod Claimed
pub mod Held
