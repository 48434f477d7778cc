-- In the order in which they build on each other.
pub mod Texts
pub mod Taking
pub mod Walks
pub mod Looked
pub mod Running
pub mod Starts
pub mod Counts
pub mod Counting
pub mod Ends
pub mod Claims
pub mod Examples
