-- In the order in which to read them.
pub mod Kinds
pub mod Tables
pub mod mirror
