-- In the order in which to read them.
pub mod Samples
pub mod Values
pub mod Search
pub mod Worked
pub mod Claims
