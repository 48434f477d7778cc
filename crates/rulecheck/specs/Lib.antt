-- In the order in which to read them.
pub mod Checking
pub mod Worked
pub mod Claims
