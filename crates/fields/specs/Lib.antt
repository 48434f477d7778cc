-- In the order in which to read them.
pub mod Numbers
pub mod Bytes
pub mod Claims
pub mod Worked
