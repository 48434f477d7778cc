-- In the order in which to read them.
pub mod Digests
pub mod Worked
