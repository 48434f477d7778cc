-- In the order in which they build on each other.
pub mod Pieces
pub mod Fitting
pub mod Rooms
pub mod Digits
