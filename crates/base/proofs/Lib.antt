pub mod Tests
pub mod Options
pub mod Lists
pub mod Totals
pub mod Conditions
pub mod Refusals
pub mod Claims
