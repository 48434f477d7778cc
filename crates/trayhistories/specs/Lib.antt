-- In the order in which to read them.
pub mod History
pub mod Last
pub mod Empties
pub mod Conditions
pub mod Claims
pub mod Functions
pub mod Worked
