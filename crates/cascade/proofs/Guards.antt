-- A rule that asks first for what few stages have: where that is missing the rule fails, whatever else it asks.
use Prim.Native.Nat.{ℕ}
use mathlib.Core.Bool.{Bool, false, ◌||◌}
use mathlib.Core.Path.{◌≡◌}
use Rattle.std.proofs.Math.Bool.{and-false}
use Rattle.std.proofs.lemmas.Bool.{or_parts}
use Rattle.combiners.specs.Combiners.{keeps_first, keeps_second}
use Rattle.cascade.specs.Keys.{reads_first, reads_second, selects, third, some, some_counted, reads}
use Rattle.cascade.specs.Reading.{keeps}
use Rattle.values.specs.declared.Combiner.{Combiner}

-- where a fact is one of no argument, it is one of none that counts
pub none_counted : (f : ℕ → Bool) (first second : Bool) (c : Combiner) → some f c ≡ false → some_counted f first second c ≡ false
none_counted f first second c e =
    let n = or_parts (f c.arg1) (f c.arg2 || third f c) e in
    let m = or_parts (f c.arg2) (third f c) n.1 in
    rw (n.0, m.0, m.1, and-false, and-false)

pub none_read : (k : ℕ) (c : Combiner) → some (selects k) c ≡ false → reads k c ≡ false
unfolding reads
none_read k c = none_counted (selects k) (reads_first c.op) (reads_second c.op) c

pub none_kept : (k : ℕ) (tex : Bool) (c : Combiner) → some (selects k) c ≡ false → keeps k tex c ≡ false
unfolding keeps
none_kept k tex c = none_counted (selects k) (keeps_first tex c.op) (keeps_second tex c.op) c
