-- In the order in which to read them.
pub mod Profiles
pub mod Runs
pub mod Worked
pub mod Claims
