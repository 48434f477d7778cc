pub mod mirror
