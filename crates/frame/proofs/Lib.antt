pub mod Samplers
pub mod Parts
