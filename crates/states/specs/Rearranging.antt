-- Writes that may change places.
-- 02, Ten: "The trainer's loader issues state writes from a hash order that nobody fixes."
use Rattle.std.specs.Prelude.{◌≡◌}
use mathlib.Core.List.{List, [], ◌∷◌, Permᴰ, Pairwise}
use Rattle.values.specs.declared.StateWrite.{StateWrite}

-- the writes are "to different stages or different types"
abbrev pub Different : StateWrite → StateWrite → Type 0
Different w x = (w.stage ≡ x.stage) × (w.state ≡ x.state) → ⊥

-- "a list that has no stage and type twice": each two writes of it are different
abbrev pub NoneTwice : List StateWrite → Type 0
NoneTwice ws = Pairwise Different ws

-- One list is a rearrangement of the other, as the kit's library has it (`Permᴰ`), by exchanges of neighbours: the empty list is one of itself;
-- equal first writes may be put in front of two; the first two writes may be exchanged; and a rearrangement of a rearrangement is one.
abbrev pub Rearrangement : List StateWrite → List StateWrite → Type 0
Rearrangement ws xs = Permᴰ ws xs

-- Ten's law, for what lists of writes make of s, a key or whatever holds one: `after ws s` is what the list ws leaves, its first write done first. It is
-- a theorem for every key, of kind 1 or 6, and so for the defaults, from which a key begins where none is held (`of_keys` of proofs/Rearranged); for
-- what is held, a key or none (records/proofs/Rearranged); and for the held bytes of the C interface (yuzuknoll/proofs/Rearranged). It is said of
-- refused writes too: they leave all, in any order.
pub record MayChangePlaces {S : Type 0} (after : List StateWrite → S → S) (s : S) : Type 0 where
  -- "two accepted writes to different stages or different types, done in either order, leave equal keys"
  pub either : (w x : StateWrite) → Different w x → after (w ∷ x ∷ []) s ≡ after (x ∷ w ∷ []) s
  -- "a write done twice running equals it done once"
  pub once : (w : StateWrite) → after (w ∷ w ∷ []) s ≡ after (w ∷ []) s
  -- "any rearrangement of a list that has no stage and type twice leaves the same key"
  pub any : (ws xs : List StateWrite) → Rearrangement ws xs → NoneTwice ws → after ws s ≡ after xs s
