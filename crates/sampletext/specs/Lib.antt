-- In the order in which to read them.
pub mod SampleText
pub mod Worked
pub mod Claims
