-- In the order in which they build on each other.
pub mod Lengths
pub mod Joining
pub mod ForFile
pub mod Reading
pub mod Claims
