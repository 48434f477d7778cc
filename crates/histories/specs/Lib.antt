-- In the order in which to read them.
pub mod History
pub mod Last
pub mod Empties
pub mod Method
pub mod Conditions
pub mod Claims
pub mod CountBound
pub mod Orders
pub mod Revisions
pub mod FormerStarts
pub mod Fewest
pub mod Functions
pub mod TableP
