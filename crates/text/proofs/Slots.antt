-- Which slots a template has: what the check of an operation's template goes by.
use Prim.Native.String.{String}
use mathlib.Core.Bool.{Bool, false, ◌||◌}
use mathlib.Core.List.{List, [], ◌∷◌}
use Rattle.text.specs.Text.{bytes}
use Rattle.text.specs.Format.{Piece, words, slot, same}

-- a piece is the slot of that name
abbrev pub is_slot : String → Piece → Bool
is_slot name (words w) = false
is_slot name (slot w) = same (bytes name) w

-- a template has a slot of that name
abbrev pub mentions : String → List Piece → Bool
mentions name [] = false
mentions name (p ∷ r) = is_slot name p || mentions name r
