pub mod Raw
pub mod Kinds
