-- In the order in which they build on each other; what belongs to no one function.
pub mod Rows
pub mod Laws
pub mod Orders
