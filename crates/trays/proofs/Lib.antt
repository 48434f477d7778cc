-- In the order in which they build on each other.
pub mod Rows
pub mod Examples
pub mod Bands
pub mod Passing
pub mod Refusing
pub mod Verdicts
pub mod Claims
pub mod Ways
