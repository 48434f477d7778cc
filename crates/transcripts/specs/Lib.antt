-- In the order in which to read them.
pub mod Standing
pub mod Runs
pub mod Answers
pub mod Claims
pub mod Agreement
