-- In the order in which they build on each other.
pub mod Beginnings
pub mod Lists
pub mod Parts
pub mod Taking
pub mod Gathering
pub mod Turns
pub mod Rounds
pub mod Fed
pub mod Whole
pub mod Ends
pub mod Functions
pub mod Alone
pub mod Claimed
