-- In the order in which to read them.
pub mod Replies
pub mod Calls
pub mod Claims
pub mod mirror
