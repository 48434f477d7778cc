-- In the order in which to read them.
pub mod Trimmed
pub mod MergeReduced
pub mod Worked
pub mod Claims
