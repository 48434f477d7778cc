-- In the order in which they build on each other.
pub mod Ranks
pub mod Quotient
pub mod Facts
pub mod Chosen
pub mod Same
pub mod Rising
pub mod Only
pub mod Law
pub mod Whole
pub mod Examples
pub mod Claims
