-- In the order in which to read them.
pub mod Answers
pub mod Texts
pub mod Worked
pub mod Claims
