-- In the order in which they build on each other.
pub mod Little
pub mod Goes
pub mod Steps
pub mod Sums
pub mod Ways
pub mod Fields
pub mod Judges
pub mod Claims
pub mod Examples
