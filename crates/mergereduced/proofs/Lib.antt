pub mod Cells
pub mod Ways
pub mod Closure
pub mod Links
