-- In the order in which to read them.
pub mod Lines
pub mod Answers
pub mod Worked
pub mod Claims
