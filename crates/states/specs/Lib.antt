pub mod Types
pub mod States
pub mod Writes
pub mod Rearranging
