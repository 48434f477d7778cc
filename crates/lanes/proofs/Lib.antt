-- In the order in which they build on each other.
pub mod Offsets
pub mod Rows
pub mod Leading
pub mod Following
