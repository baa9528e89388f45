mod Bytes
pub mod Numbers
