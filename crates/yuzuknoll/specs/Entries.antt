-- The state of a pass over an entry's body as three numbers that the caller keeps.
use Rattle.std.specs.Prelude.{ℕ, ◌%◌, List, [], ◌∷◌, get_or}
use Rattle.admission.specs.declared.entry.Pass.{Pass}

-- how many bytes were taken, the length byte, and 1 once a byte was wrong
abbrev pub state_of : Pass → List ℕ
state_of p = p.taken ∷ p.length ∷ p.wrong ∷ []

-- Any three numbers are a state: each counts modulo 256.
abbrev pub pass_of : List ℕ → Pass
pass_of l = record { taken = get_or l 0 0 % 256; length = get_or l 1 0 % 256; wrong = get_or l 2 0 % 256 }
