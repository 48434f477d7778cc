-- In the order in which to read them.
pub mod Faults
pub mod Worked
pub mod Claims
pub mod Functions
