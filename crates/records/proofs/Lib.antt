pub mod Answers
pub mod Room
pub mod Writes
pub mod Rearranged
