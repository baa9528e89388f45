-- A lent buffer, and a text written into it at a place.
-- 01: "`String` and `format!`: a lent buffer with a position."
use Rattle.std.specs.Prelude.{ℕ, ◌+◌, ◌<◌, ◌≤◌, ◌≡◌, List, length}
use Rattle.std.proofs.lemmas.List.Edits.{sets}
use Rattle.text.specs.Text.{Text, flat}

-- Writing t at the place at of the buffer l leaves the buffer l' and answers the place at'. A text that fits stands in the buffer from at on,
-- and at' is the place behind its last byte. Where it does not fit, at' is no place of the buffer, and what the buffer holds is left open.
pub record Wrote (l : List ℕ) (at : ℕ) (l' : List ℕ) (at' : ℕ) (t : Text) : Type 0 where
  pub kept : length l' ≡ length l
  pub fits : at + length (flat t) ≤ length l → (l' ≡ sets l at (flat t)) × (at' ≡ at + length (flat t))
  pub over : length l < at + length (flat t) → length l < at'

-- The same of a text that is written as a whole or not at all: where it does not fit, the buffer is left.
pub record Placed (l : List ℕ) (at : ℕ) (l' : List ℕ) (at' : ℕ) (t : Text) : Type 0 where
  pub written : Wrote l at l' at' t
  pub left : length l < at + length (flat t) → l' ≡ l
