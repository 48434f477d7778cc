-- In the order in which they build on each other.
pub mod Long
pub mod Clipped
pub mod Asking
pub mod Standing
pub mod Claimed
