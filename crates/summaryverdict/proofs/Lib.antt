-- In the order in which they build on each other.
pub mod Leading
pub mod Answers
pub mod Traces
pub mod Concluding
pub mod Using
pub mod Boards
pub mod Claims
pub mod Lists
pub mod Gathering
pub mod Functions
pub mod Examples
