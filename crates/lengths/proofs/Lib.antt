-- Sums of lengths that depend on tests; then the parts of a text: an expression, a stage's line, its lookup and its parameters; the stages together.
mod Sums
mod Expressions
mod Lines
mod Lookups
mod Stages
-- The theorems: no text is longer, and the greatest lengths are reached.
pub mod Longest
pub mod Reached
pub mod Room
