-- In the order in which to read them.
pub mod Meaning
pub mod Answers
pub mod Worked
pub mod Claims
