-- In the order in which to read them.
pub mod Fields
pub mod Reading
pub mod Claims
