-- In the order in which to read them.
pub mod Sizes
pub mod Rows
pub mod Replies
pub mod Calls
pub mod Boards
pub mod Worked
pub mod Claims
pub mod mirror
