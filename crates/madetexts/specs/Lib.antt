-- In the order in which to read them.
pub mod Values
pub mod Making
pub mod Claims
