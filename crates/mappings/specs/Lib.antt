-- In the order in which to read them.
pub mod Mappings
pub mod Packing
pub mod Claims
