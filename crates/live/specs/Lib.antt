-- In the order in which to read them.
pub mod Live
pub mod Continued
pub mod Claims
