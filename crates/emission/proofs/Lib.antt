pub mod Answers
pub mod InPlace
