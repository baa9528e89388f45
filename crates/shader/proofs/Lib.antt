pub mod Names
pub mod Numbers
pub mod Examples
pub mod Narrow
