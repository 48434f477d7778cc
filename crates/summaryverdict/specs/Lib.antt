-- In the order in which to read them.
pub mod Traces
pub mod Lists
pub mod Functions
pub mod Worked
