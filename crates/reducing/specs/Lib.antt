-- In the order in which to read them.
pub mod Reduced
pub mod Reducing
pub mod Worked
pub mod Claims
