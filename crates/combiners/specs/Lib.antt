pub mod Codes
pub mod Arguments
pub mod Combiners
pub mod Warnings
