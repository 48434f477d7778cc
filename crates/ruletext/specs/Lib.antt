-- In the order in which to read them.
pub mod RuleText
pub mod Printing
pub mod Claims
