pub mod Text
pub mod Format
pub mod Marks
pub mod Buffer
