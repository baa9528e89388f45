pub mod Active
mod Guards
pub mod Narrowing
mod PlainStages
pub mod Reports
pub mod Surveys
mod Walking
