pub mod Fields
pub mod Bounds
pub mod Numbers
pub mod RoundTrip
pub mod Examples
pub mod Claims
