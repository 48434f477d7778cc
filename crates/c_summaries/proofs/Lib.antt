pub mod Numbers
pub mod Asks
