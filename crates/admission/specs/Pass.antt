-- An entry looked over in one pass: the 33 bytes of its body in order, one at a time.
-- 02: "a step that takes the body's 33 bytes in order, one at a time, with a state of three numbers"
use Rattle.std.specs.Prelude.{◌≡◌, ℕ, ◌+◌, ◌%◌, Bool, true, cond, ◌&&◌, List, [], ◌∷◌, ◌++◌, length, ◌==◌, nat_le}
use Rattle.values.specs.Entries.{starts_name, continues_name, entry_good}
use Rattle.values.specs.declared.Entry.{Entry}
use Rattle.admission.specs.declared.entry.Pass.{Pass}

-- The byte c may be byte number i of a body whose byte 0 is len: a length of 1 to 32; the name, which a digit may not begin; zeros. There is no byte
-- behind number 32.
unfoldable pub right : ℕ → ℕ → ℕ → Bool
right i len c =
    cond (i == 0) (nat_le 1 c && nat_le c 32)
    (cond (i == 1) (starts_name c) (cond (nat_le i len) (continues_name c) (nat_le i 32 && c == 0)))

-- the state before the first byte
abbrev pub started : Pass
started = record { taken = 0; length = 0; wrong = 0 }

-- The state behind one byte more: how many were taken, modulo 256, the length byte, and 1 once a byte was wrong.
unfoldable pub pass_stepped : Pass → ℕ → Pass
pass_stepped p c =
    record {
      taken = (p.taken + 1) % 256;
      length = cond (p.taken == 0) c p.length;
      wrong = cond (right p.taken p.length c) p.wrong 1;
    }

-- the state tells that no byte so far was wrong
abbrev pub possible_in : Pass → Bool
possible_in p = p.wrong == 0

-- the state behind some bytes, and behind a front of a body
unfoldable pub passed_over : Pass → List ℕ → Pass
passed_over p [] = p
passed_over p (c ∷ r) = passed_over (pass_stepped p c) r

abbrev pub possible_after : List ℕ → Bool
possible_after front = possible_in (passed_over started front)

-- the 33 bytes of an entry's body
abbrev pub body_of : Entry → List ℕ
body_of e = e.len ∷ e.name

-- 02: "some body that begins so is free of cause 6"
pub record Possible (front : List ℕ) : Type 0 where
  pub entry : Entry
  pub whole : length entry.name ≡ 32
  pub rest : List ℕ
  pub begins : body_of entry ≡ front ++ rest
  pub good : entry_good entry ≡ true
