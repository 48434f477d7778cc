-- In the order in which they build on each other.
pub mod Texts
pub mod Numbers
pub mod Closure
pub mod OneSeed
pub mod Pigeonhole
pub mod Reached
pub mod Found
pub mod Order
pub mod InOrder
pub mod Arrays
pub mod Table
pub mod Turns
pub mod Claims
