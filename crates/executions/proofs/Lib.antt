pub mod Executions
pub mod Last
