-- Writes of states: which are turned away, what one does to a key, and what a list of them does.
use Rattle.std.specs.Prelude.{ℕ, ◌≡◌, Bool, false, not, ◌&&◌, ◌||◌, cond, List, [], ◌∷◌, eqb, ltb, Result, Ok, Err}
use Rattle.std.proofs.Math.Option.{Option, some, none, or_else, get_or}
use Rattle.values.specs.declared.Key.{Key}
use Rattle.values.specs.declared.StateWrite.{StateWrite}
use Rattle.values.specs.declared.Refusal.TheVariants.{StageNumber, StateType, StateValue}
use Rattle.values.specs.declared.Refusal.{Refusal}
use Rattle.states.specs.Types.{is_type, sets_arg0, takes}
use Rattle.states.specs.States.{get_state, set_state}

-- 02, One: "10, stage above 7; 11, another type; 12, value above 255 or, for types 28 and 0, none of those named; in that order"; 0 where the write
-- is accepted
unfoldable pub state_write_number : StateWrite → ℕ
state_write_number w = cond (ltb 7 w.stage) 10 (cond (not (is_type w.state)) 11 (cond (not (takes w.state w.value)) 12 0))

-- the same, by the cases of `Refusal`
unfoldable pub checked_write : StateWrite → Result (Unit {0}) Refusal
checked_write w =
    cond (ltb 7 w.stage) (Err StageNumber)
    (cond (not (is_type w.state)) (Err StateType) (cond (not (takes w.state w.value)) (Err StateValue) (Ok tt)))

abbrev pub accepted : StateWrite → Bool
accepted w = eqb (state_write_number w) 0

-- a key after a write. "Each number turned away ..: the number is returned, and all is left."
unfoldable pub write_applied : StateWrite → Key → Key
write_applied w k = cond (accepted w) (set_state w.stage w.state w.value k) k

-- a key after a list of writes, the first of the list done first
unfoldable pub writes_applied : List StateWrite → Key → Key
writes_applied [] k = k
writes_applied (w ∷ r) k = writes_applied r (write_applied w k)

-- the write is accepted, and is one of the type t at stage i
abbrev pub writes : StateWrite → ℕ → ℕ → Bool
writes w i t = accepted w && (eqb w.stage i && eqb w.state t)

-- the last value that a list writes for a stage and a type: that of the writes behind the first, and else the first's own
unfoldable pub last_written : ℕ → ℕ → List StateWrite → Option ℕ
last_written i t [] = none
last_written i t (w ∷ r) = or_else (last_written i t r) (cond (writes w i t) (some w.value) none)

-- The law. 02, One: "For every list of writes the key must hold, for each stage and type, the last value written, or else what it held before." It is a
-- theorem for every list: `last_written_lem` of proofs/LastWritten for a key that was held, `from_defaults` for none, and `last_held` of
-- records/proofs/Writes for the records of the list, handed over one by one.
abbrev pub LastWritten : List StateWrite → Key → Type 0
LastWritten ws k = (i t : ℕ) → get_state i t (writes_applied ws k) ≡ get_or (last_written i t ws) (get_state i t k)

-- the write is accepted, and is one of type 26 or 27
abbrev pub widens : StateWrite → Bool
widens w = accepted w && sets_arg0 w.state

unfoldable pub any_widens : List StateWrite → Bool
any_widens [] = false
any_widens (w ∷ r) = widens w || any_widens r

-- The kind. 02, Nine: types 26 and 27 "make the key a kind 6 key"; "other writes leave a key's kind". It is `kind_written` of proofs/LastWritten.
abbrev pub KindWritten : List StateWrite → Key → Type 0
KindWritten ws k = (writes_applied ws k).wide ≡ (k.wide || any_widens ws)

-- what is answered for a stage and a type of a key: the state, or 10 or 11 as for a write
unfoldable pub got_state : Key → ℕ → ℕ → Result ℕ Refusal
got_state k i t = cond (ltb 7 i) (Err StageNumber) (cond (not (is_type t)) (Err StateType) (Ok (get_state i t k)))
