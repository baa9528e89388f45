pub mod Bodies
pub mod Values
pub mod Causes
pub mod Reading
pub mod Writing
pub mod Altering
