-- In the order in which to read them.
pub mod Languages
pub mod Merged
pub mod Merging
pub mod Worked
pub mod Claims
