-- In the order in which to read them.
pub mod Numbering
pub mod Texts
pub mod Order
pub mod Claims
pub mod mirror
