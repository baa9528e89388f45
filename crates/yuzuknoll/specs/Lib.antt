pub mod Lent
pub mod Emitting
pub mod Entries
pub mod Records
pub mod Applying
