pub mod Ways
pub mod Claims
