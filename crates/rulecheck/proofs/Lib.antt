-- In the order in which they build on each other.
pub mod Targets
pub mod Laws
pub mod Examples
pub mod First
pub mod Claims
