-- In the order in which to read them.
pub mod Texts
pub mod Worked
pub mod Claims
