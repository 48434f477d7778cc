-- In the order in which to read them.
pub mod Following
pub mod Worked
pub mod Claims
pub mod mirror
