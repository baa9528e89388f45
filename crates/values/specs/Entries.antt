-- Entries: the name of the fragment function, and cause 6.
use Rattle.std.specs.Prelude.{ℕ, Bool, true, false, ◌&&◌, ◌||◌, List, [], ◌∷◌, eqb, leb, take, drop}
use Prim.Native.Char.{code}
use Rattle.values.specs.declared.Entry.{Entry}

-- the name of an entry
abbrev pub name_of : Entry → List ℕ
name_of e = take e.len e.name

-- letters, and what else may stand in an entry
abbrev pub is_letter : ℕ → Bool
is_letter c = (leb (code "A") c && leb c (code "Z")) || (leb (code "a") c && leb c (code "z"))

abbrev pub is_digit : ℕ → Bool
is_digit c = leb (code "0") c && leb c (code "9")

abbrev pub is_underscore : ℕ → Bool
is_underscore c = eqb c (code "_")

abbrev pub starts_name : ℕ → Bool
starts_name c = is_letter c || is_underscore c

abbrev pub continues_name : ℕ → Bool
continues_name c = starts_name c || is_digit c

unfoldable pub all : (ℕ → Bool) → List ℕ → Bool
all f [] = true
all f (c ∷ r) = f c && all f r

abbrev pub is_identifier : List ℕ → Bool
is_identifier [] = false
is_identifier (c ∷ r) = starts_name c && all continues_name r

-- 6: "entry length 0 or above 32, first byte no letter or underscore, other byte of it no letter, digit or underscore, or nonzero tail"
unfoldable pub entry_good : Entry → Bool
entry_good e = leb e.len 32 && (is_identifier (name_of e) && all (λ c. eqb c 0) (drop e.len e.name))
