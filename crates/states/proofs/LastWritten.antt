-- Request One's law: after every list of writes a key holds, for each stage and type, the last value written, or else what it held before.
use Prim.Native.Nat.{ℕ}
use mathlib.Core.Path.{◌≡◌, refl, sym, ap, ◌∙◌}
use mathlib.Core.Bool.{Bool, true, false, ◌||◌, or_assoc, or-false, cond}
use mathlib.Core.List.{List, [], ◌∷◌}
use mathlib.Core.Option.{Option, some, none, or_else, get_or}
use lib.ListN.{length}
use Rattle.values.specs.declared.Key.{Key}
use Rattle.values.specs.declared.StateWrite.{StateWrite}
use Rattle.states.specs.States.{defaults, get_state}
use Rattle.states.specs.Writes.{KindWritten, LastWritten, any_widens, last_written, widens, writes, writes_applied, write_applied}
use Rattle.states.proofs.Keys.{Kept, defaults_eight, kept, one_kind, one_written}

-- the last value of a list, or else what was held, is that of the list's rest, or else what the first write leaves
later : (o : Option ℕ) (b : Bool) (v h : ℕ) → get_or o (cond b v h) ≡ get_or (or_else o (cond b (some v) none)) h
unfolding or_else
later (some x) b v h = refl
later none true v h = refl
later none false v h = refl

pub last_written_lem : (ws : List StateWrite) (k : Key) → length k.stages ≡ 8 → LastWritten ws k
unfolding writes_applied last_written
last_written_lem [] k eight i t = refl
last_written_lem (w ∷ r) k eight i t =
    last_written_lem r (write_applied w k) ((kept w k eight).stages ∙ eight) i t
    ∙ rw (one_written w k eight i t) (later (last_written i t r) (writes w i t) w.value (get_state i t k))

-- with nothing held before, a key starts from the defaults
pub from_defaults : (ws : List StateWrite) → LastWritten ws defaults
from_defaults ws = last_written_lem ws defaults defaults_eight

-- a key is of kind 6 once an argument 0 is written
pub kind_written : (ws : List StateWrite) (k : Key) → KindWritten ws k
unfolding writes_applied any_widens
kind_written [] k = sym (or-false k.wide)
kind_written (w ∷ r) k =
    kind_written r (write_applied w k) ∙ ap (λ (b : Bool). b || any_widens r) (one_kind w k) ∙ or_assoc k.wide (widens w) (any_widens r)

-- what no type reaches stays as it was
pub all_kept : (ws : List StateWrite) (k : Key) → length k.stages ≡ 8 → Kept k (writes_applied ws k)
unfolding writes_applied
all_kept [] k eight = record { stages = refl; spared = λ i. refl; specular = refl; projected = refl; kind = λ n. n; unread = λ n i. refl }
all_kept (w ∷ r) k eight =
    let first = kept w k eight in
    let rest = all_kept r (write_applied w k) (first.stages ∙ eight) in
    record {
      stages = rest.stages ∙ first.stages;
      spared = λ i. rest.spared i ∙ first.spared i;
      specular = rest.specular ∙ first.specular;
      projected = rest.projected ∙ first.projected;
      kind = λ n. first.kind (rest.kind n);
      unread = λ n i. rest.unread n i ∙ first.unread (rest.kind n) i;
    }
