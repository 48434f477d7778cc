-- In the order in which they build on each other; what belongs to no one function.
pub mod Tests
pub mod Kept
pub mod Classes
pub mod Merged
pub mod Merging
pub mod Alike
pub mod Answer
pub mod Acceptance
pub mod Claims
pub mod Fewest
