-- In the order in which to read them.
pub mod Positions
pub mod Pruning
pub mod ByRun
pub mod Spotting
