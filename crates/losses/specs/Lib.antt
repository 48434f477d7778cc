-- In the order in which to read them.
pub mod Losses
pub mod Claims
pub mod Spots
pub mod Answers
pub mod Functions
