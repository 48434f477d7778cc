-- In the order in which they build on each other.
pub mod Living
pub mod Continuing
pub mod Diagnosing
pub mod Staying
pub mod Spotting
pub mod Spots
pub mod Claims
pub mod Answers
pub mod Functions
