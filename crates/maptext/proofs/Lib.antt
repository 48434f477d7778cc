-- In the order in which they build on each other.
pub mod Reading
pub mod RoundTrip
