-- In the order in which to read them.
pub mod Held
pub mod Right
pub mod Claimed
