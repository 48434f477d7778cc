pub mod Numbers
pub mod ReadBack
pub mod Laws
pub mod Asks
