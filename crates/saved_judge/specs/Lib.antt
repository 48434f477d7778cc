-- In the order in which to read them.
pub mod Little
pub mod Digest
pub mod Saved
pub mod Claims
pub mod Worked
