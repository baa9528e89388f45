-- What a survey says of the active stages: they are the first ones, as many as it counted.
use Prim.Native.Nat.{ℕ, ◌≤◌}
use mathlib.Core.List.{List}
use mathlib.Core.Path.{◌≡◌, sym}
use native.Mathlib.Omega.{arith}
use lib.ListN.{length, take}
use Rattle.std.proofs.lemmas.List.{length-take}
use Rattle.cascade.specs.Keys.{active}
use Rattle.cascade.specs.Survey.{survey_of}
use Rattle.cascade.specs.declared.Survey.{Survey}
use Rattle.values.specs.declared.Stage.{Stage}
use Rattle.cascade.proofs.Active.{active-take, count_le}

pub survey_count : (l : List Stage) (u : Survey) → u ≡ survey_of l → u.count ≤ length l
unfolding survey_of
survey_count l u e = rw e (count_le l)

pub survey_active : (l : List Stage) (u : Survey) → u ≡ survey_of l → take u.count l ≡ active l
unfolding survey_of
survey_active l u e = rw e (sym (active-take l))

-- the first n of a list are no more than n
pub no_more : (l : List Stage) (n m : ℕ) → n ≤ m → length (take n l) ≤ m
no_more l n m h = rw length-take (omega arith)
