pub mod Tables
pub mod Claims
