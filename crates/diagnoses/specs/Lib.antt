pub mod Diagnosing
