-- In the order in which to read them.
pub mod FormText
pub mod Worked
pub mod Claims
