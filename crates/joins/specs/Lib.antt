-- In the order in which to read them.
pub mod Joining
pub mod Claims
pub mod Former
