-- Texts: bytes, one text behind another, or one of two by a test; the bytes and the length of each; decimal numbers.
-- 01: "The literal texts are those of docs/src."
use Rattle.std.specs.Prelude.{ℕ, zero, suc, ◌+◌, ◌/◌, ◌%◌, Bool, cond, List, [], ◌∷◌, ◌++◌, ltb, length}
use Prim.Native.Char.{code}
use Prim.Native.String.{String, [] as []ˢ, ◌∷◌ as ◌∷ˢ◌}

-- the bytes of a quoted text
abbrev pub bytes : String → List ℕ
bytes []ˢ = []
bytes (c ∷ˢ s) = code c ∷ bytes s

infixr 60 ◌⊕◌
pub data Text : Type 0 where
  raw : List ℕ → Text
  ◌⊕◌ : Text → Text → Text
  pick : Bool → Text → Text → Text

abbrev pub lit : String → Text
lit s = raw (bytes s)

abbrev pub none : Text
none = raw []

-- a text that is there only if the test holds
abbrev pub when : Bool → Text → Text
when b t = pick b t none

-- the bytes of a text
abbrev pub flat : Text → List ℕ
flat (raw x) = x
flat (s ⊕ t) = flat s ++ flat t
flat (pick b s t) = cond b (flat s) (flat t)

-- the length of a text
abbrev pub size : Text → ℕ
size (raw x) = length x
size (s ⊕ t) = size s + size t
size (pick b s t) = cond b (size s) (size t)

-- a digit
abbrev pub digit : ℕ → Text
digit n = raw ((48 + n) ∷ [])

-- a number in decimal, of at most as many digits as the first argument says
unfoldable pub decimal_of : ℕ → ℕ → Text
decimal_of zero n = none
decimal_of (suc d) n = pick (ltb n 10) (digit n) (decimal_of d (n / 10) ⊕ digit (n % 10))

-- a number below 10 ^ 20 in decimal
abbrev pub decimal : ℕ → Text
decimal n = decimal_of 20 n
