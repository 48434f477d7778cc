-- In the order in which they build on each other.
pub mod Sets
pub mod Tables
pub mod Languages
pub mod Conditions
pub mod Only
pub mod Law
pub mod Examples
pub mod Claims
