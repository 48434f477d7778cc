-- In the order in which to read them.
pub mod Positions
pub mod Locating
pub mod mirror
