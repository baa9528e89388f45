pub mod Keys
pub mod Effective
pub mod Stages
pub mod Reading
pub mod Warnings
pub mod Survey
pub mod Plain
pub mod Walks
