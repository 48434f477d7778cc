-- In the order in which they build on each other.
pub mod Long
pub mod Held
pub mod Examples
pub mod Claimed
