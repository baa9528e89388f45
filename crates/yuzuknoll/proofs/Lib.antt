mod Lent
mod Checking
mod Emitting
mod Raw
pub mod Records
mod Applying
mod Altering
pub mod Held
pub mod Rearranged
