-- In the order in which they build on each other.
pub mod Agree
pub mod Conditions
pub mod Runs
pub mod Sources
pub mod OneMethod
pub mod Places
pub mod Replies
pub mod Fixed
pub mod Joining
pub mod EveryList
pub mod OneBoard
pub mod Verdict
pub mod OneText
