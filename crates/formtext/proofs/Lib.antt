pub mod Lengths
pub mod Counting
pub mod Whole
pub mod Examples
pub mod Claims
