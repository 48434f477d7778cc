pub mod ReadBack
pub mod Asks
