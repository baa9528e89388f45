mod Filled
pub mod Reached
