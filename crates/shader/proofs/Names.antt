-- The proof of demand 3 and of no idle local.
-- Tests as facts; a scan that finds what 01's rule finds; a check of what it finds, which is enough for both.
pub mod Truth
pub mod Scan
pub mod Check
pub mod Idle
-- How the check goes through a text part by part: words, and texts made by templates, one proof for all of them.
pub mod Frag
pub mod Words
pub mod Templates
-- How a use is found in a text, wherever it stands.
pub mod Mentions
-- The parts of the text, as specs/ has them, and what the rules of the key say of them.
pub mod Order
pub mod Arguments
pub mod Operations
pub mod Rules
pub mod Samples
pub mod Coordinates
pub mod Lookups
pub mod Expressions
pub mod Locals
pub mod Stages
pub mod Output
pub mod Signature
pub mod Parameters
-- The part of the text that counts; the theorem, `demand`; short texts with their occurrences.
pub mod Counted
pub mod Whole
pub mod Examples
