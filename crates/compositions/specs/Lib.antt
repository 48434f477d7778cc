-- In the order in which to read them.
pub mod Bracketing
pub mod Relations
pub mod Claims
