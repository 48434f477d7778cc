-- In the order in which to read them.
pub mod Interleavings
pub mod Products
pub mod Words
pub mod Claims
