pub mod Bounds
pub mod Witness
