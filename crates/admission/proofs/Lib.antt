pub mod Passes
pub mod Reserved
