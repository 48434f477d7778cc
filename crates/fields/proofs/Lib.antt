-- In the order in which they build on each other.
pub mod Digits
pub mod Pairs
pub mod RoundTrip
pub mod Exact
pub mod Claims
pub mod Examples
pub mod Taking
