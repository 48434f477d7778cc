pub mod Lists
pub mod Totals
pub mod Options
pub mod Answers
pub mod Conditions
pub mod Claims
