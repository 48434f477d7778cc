-- In the order in which they build on each other; what belongs to no one function.
pub mod Places
pub mod Clamped
pub mod Acceptance
pub mod Joined
pub mod Delegated
pub mod Counted
pub mod Claims
pub mod Former
pub mod Examples
