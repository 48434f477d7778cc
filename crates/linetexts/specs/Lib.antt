-- In the order in which to read them.
pub mod Parts
pub mod Feeding
pub mod Beginnings
pub mod Lists
pub mod Claims
pub mod Functions
pub mod Alone
