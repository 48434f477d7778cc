pub mod Turns
pub mod Making
