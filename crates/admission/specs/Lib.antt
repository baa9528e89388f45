pub mod Pass
pub mod Patterns
