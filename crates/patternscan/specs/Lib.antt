-- In the order in which to read them.
pub mod Signs
pub mod Scanning
pub mod Claims
