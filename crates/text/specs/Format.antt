-- Templates: quoted texts with slots in braces, as the format strings of the Rust have them.
-- `format "({a} * {b})" (("a" ≔ x) ∷ ("b" ≔ y) ∷ [])` is `lit "(" ⊕ x ⊕ lit " * " ⊕ y ⊕ lit ")"`.
use Rattle.std.specs.Prelude.{ℕ, Bool, true, false, cond, ◌&&◌, List, [], ◌∷◌, ◌++◌, eqb}
use Prim.Native.Char.{code}
use Prim.Native.String.{String, [] as []ˢ, ◌∷◌ as ◌∷ˢ◌}
use Rattle.text.specs.Text.{Text, raw, ◌⊕◌, none, bytes}

pub data Piece : Type 0 where
  words : List ℕ → Piece
  slot : List ℕ → Piece

-- words, if there are any, before other pieces
abbrev pub words_then : List ℕ → List Piece → List Piece
words_then [] r = r
words_then (x ∷ w) r = words (x ∷ w) ∷ r

-- the pieces of a template, behind the bytes w read so far, of words or of a slot's name
abbrev pub cut_from : Bool → List ℕ → String → List Piece
cut_from in_slot w []ˢ = words_then w []
cut_from false w (c ∷ˢ s) = cond (eqb (code c) (code "{")) (words_then w (cut_from true [] s)) (cut_from false (w ++ (code c ∷ [])) s)
cut_from true w (c ∷ˢ s) = cond (eqb (code c) (code "}")) (slot w ∷ cut_from false [] s) (cut_from true (w ++ (code c ∷ [])) s)

abbrev pub cut : String → List Piece
cut s = cut_from false [] s

-- what stands in a slot
pub data Slot : Type 0 where
  ◌≔◌ : String → Text → Slot

infix 70 ◌≔◌
abbrev pub same : List ℕ → List ℕ → Bool
same [] [] = true
same [] (y ∷ t) = false
same (x ∷ s) [] = false
same (x ∷ s) (y ∷ t) = eqb x y && same s t

abbrev pub find : List Slot → List ℕ → Text
find [] w = none
find ((name ≔ t) ∷ r) w = cond (same (bytes name) w) t (find r w)

abbrev pub piece_text : List Slot → Piece → Text
piece_text f (words w) = raw w
piece_text f (slot w) = find f w

abbrev pub fill : List Slot → List Piece → Text
fill f [] = none
fill f (p ∷ []) = piece_text f p
fill f (p ∷ (q ∷ r)) = piece_text f p ⊕ fill f (q ∷ r)

abbrev pub format : String → List Slot → Text
format s f = fill f (cut s)
