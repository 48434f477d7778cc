-- In the order in which to read them.
pub mod Form
pub mod Back
pub mod Claims
