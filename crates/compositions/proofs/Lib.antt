pub mod Unions
pub mod Bracketing
pub mod Relations
pub mod Claims
