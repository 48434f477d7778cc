pub mod Lengths
pub mod Whole
pub mod Examples
pub mod Claims
