-- In the order in which to read them.
pub mod Limits
pub mod Patterns
pub mod Grammar
pub mod Positions
pub mod Marked
pub mod Claims
