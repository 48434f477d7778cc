-- In the order in which to read them.
pub mod First
pub mod Faulting
