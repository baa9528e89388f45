-- Demand 3: what the text of an accepted emission says of its names, and what its result says of the text and of the key.
-- 01: "Lookups in the result are the emitter's own count, one for each lookup that it wrote." Here that count is held to the text, to the reading
-- rule and to the mask. It is said of keys of both kinds; 02, of kind 6: "names, `ps_c` rows, lookups and mask obey the mission's third property for it".
use Rattle.std.specs.Prelude.{ℕ, zero, suc, ◌+◌, ◌/◌, ◌%◌, ◌≤◌, ◌<◌, Bool, cond, ◌≡◌, List, [], ◌∷◌, ◌++◌, take, Result, Ok, Err}
use Rattle.cascade.specs.Effective.{active_stages}
use Rattle.cascade.specs.Reading.{live, lookups_of}
use Rattle.values.specs.Listed.{Name}
use Rattle.shader.specs.Names.{same_name, Occurrence, declaration, usage, row, occurrences}
use Rattle.shader.specs.Idle.{is_word, NoIdle}
use Rattle.values.specs.declared.Key.{Key}
use Rattle.values.specs.declared.Emitted.{Emitted}
use Rattle.values.specs.declared.Refusal.{Refusal}

-- how often a name is declared
abbrev pub declared : Name → List Occurrence → ℕ
declared n [] = 0
declared n (declaration m ∷ l) = cond (same_name n m) 1 0 + declared n l
declared n (usage m ∷ l) = declared n l
declared n (row k ∷ l) = declared n l

-- one of t0 to t7
abbrev pub is_texel : Name → Bool
is_texel n = is_word "t" n

-- how many declarations of t0 to t7 there are
abbrev pub texels : List Occurrence → ℕ
texels [] = 0
texels (declaration m ∷ l) = cond (is_texel m) 1 0 + texels l
texels (usage m ∷ l) = texels l
texels (row k ∷ l) = texels l

-- the sum of the n lowest binary digits of m
abbrev pub set_bits : ℕ → ℕ → ℕ
set_bits zero m = 0
set_bits (suc n) m = m % 2 + set_bits n (m / 2)

-- how many active stages the reading rule marks
abbrev pub marked_stages : Key → ℕ
marked_stages k = lookups_of (live (active_stages k)) (active_stages k)

pub record Demand3 (key : Key) (text : List ℕ) (m : Emitted) : Type 0 where
  -- before each use of a listed name stands exactly one declaration of it
  pub declared_before : (n : Name) (before behind : List Occurrence) → occurrences text ≡ before ++ (usage n ∷ behind) → declared n before ≡ 1
  -- no listed name is declared twice
  pub declared_once : (n : Name) → declared n (occurrences text) ≤ 1
  -- every row of `ps_c` is below the row count
  pub rows_counted : (k : ℕ) (before behind : List Occurrence) → occurrences text ≡ before ++ (row k ∷ behind) → k < m.rows
  -- the lookups are the declarations of t0 to t7
  pub lookups_written : texels (occurrences text) ≡ m.lookups
  -- they are the stages that the reading rule marks
  pub lookups_marked : marked_stages key ≡ m.lookups
  -- and no more than the mask's bits
  pub lookups_masked : m.lookups ≤ set_bits 8 m.mask

-- what is demanded of the names of a text: demand 3, and that none of its locals is idle
pub record Demands (key : Key) (text : List ℕ) (m : Emitted) : Type 0 where
  pub demand3 : Demand3 key text m
  pub no_idle : NoIdle text

-- of an answer and the bytes that the buffer then holds: a refusal wrote no text
abbrev pub Demanded : Key → Result Emitted Refusal → List ℕ → Type 0
Demanded key (Err c) out = Unit {0}
Demanded key (Ok m) out = Demands key (take m.length out) m
