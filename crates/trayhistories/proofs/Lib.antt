-- In the order in which they build on each other.
pub mod Agreement
pub mod Numbers
pub mod Steps
pub mod Installing
pub mod Conditions
pub mod Clauses
pub mod Refusing
pub mod Changing
pub mod EveryList
pub mod Last
pub mod Empties
pub mod NoOther
pub mod Refinement
pub mod Examples
