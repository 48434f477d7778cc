-- In the order in which they build on each other.
pub mod Composing
pub mod Packing
pub mod Rules
pub mod Numbered
pub mod Claims
pub mod Examples
