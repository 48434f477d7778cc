pub mod ProfileText
pub mod Worked
pub mod Claims
