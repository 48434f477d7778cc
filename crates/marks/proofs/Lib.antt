-- In the order in which they build on each other.
pub mod Laws
pub mod Packing
pub mod Claims
