-- In the order in which to read them.
pub mod Reader
pub mod Rules
pub mod Claims
