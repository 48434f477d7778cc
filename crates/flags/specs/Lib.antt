pub mod Flags
