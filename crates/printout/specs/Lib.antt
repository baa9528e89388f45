pub mod Program
pub mod Steps
pub mod Giving
pub mod Part
