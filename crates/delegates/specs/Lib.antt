-- In the order in which to read them.
pub mod Alike
pub mod Claims
pub mod Fewest
pub mod mirror
