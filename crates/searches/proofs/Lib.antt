-- In the order in which they build on each other.
pub mod Order
pub mod Firsts
pub mod WayBack
pub mod Searches
pub mod Texts
pub mod Cells
pub mod Back
pub mod Copies
pub mod Searched
