-- In the order in which they build on each other.
pub mod Kept
pub mod Standing
pub mod Tails
pub mod Claimed
