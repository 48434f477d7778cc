-- In the order in which to read them.
pub mod Search
pub mod Texts
pub mod mirror
