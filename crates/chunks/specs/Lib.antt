-- In the order in which to read them.
pub mod Chunks
pub mod Taking
pub mod Counting
pub mod Claims
pub mod mirror
