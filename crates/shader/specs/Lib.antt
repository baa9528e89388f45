pub mod Lookups
pub mod Output
pub mod Whole
pub mod Results
pub mod Names
pub mod Idle
pub mod Demand
pub mod Worked
