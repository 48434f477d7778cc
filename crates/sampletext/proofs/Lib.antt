-- In the order in which they build on each other.
pub mod Lines
pub mod Examples
pub mod Claims
