pub mod MappingText
pub mod Worked
pub mod Claims
