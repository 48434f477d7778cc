-- In the order in which to read them.
pub mod Compared
pub mod Values
pub mod Search
pub mod Worked
pub mod Claims
