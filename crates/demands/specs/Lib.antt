pub mod Functions
pub mod Shown
pub mod TextFunctions
