-- No idle local, over the occurrences that demand 3 speaks of.
-- 02: "each declared t, temp, pc, bc, proj and bump_env is used at least once after its declaration. Parameters s, samp, alpha_ref and lod_bias may be
-- idle, as today."
use Rattle.std.specs.Prelude.{ℕ, Bool, false, ◌||◌, ◌≡◌, List, [], ◌∷◌, ◌++◌, T, get_or}
use Prim.Native.String.{String}
use Rattle.text.specs.Text.{bytes}
use Rattle.text.specs.Format.{same}
use Rattle.values.specs.Listed.{Name, name, singles, families}
use Rattle.shader.specs.Names.{same_name, Occurrence, declaration, usage, row, occurrences}

-- the name is this word of 01's list, with a stage number or without
abbrev pub is_word : String → Name → Bool
is_word s (name k i) = same (bytes s) (bytes (get_or (singles ++ families) k ""))

-- the names that may not be idle
abbrev pub watched : Name → Bool
watched n = is_word "t" n || (is_word "temp" n || (is_word "pc" n || (is_word "bc" n || (is_word "proj" n || is_word "bump_env" n))))

-- a name is used at least once
abbrev pub used : Name → List Occurrence → Bool
used n [] = false
used n (declaration m ∷ l) = used n l
used n (usage m ∷ l) = same_name n m || used n l
used n (row k ∷ l) = used n l

-- behind each declaration of such a name stands a use of it
abbrev pub NoIdle : List ℕ → Type 0
NoIdle text =
    (n : Name) (before behind : List Occurrence) → T (watched n) → occurrences text ≡ before ++ (declaration n ∷ behind) → T (used n behind)
