-- What narrowing leaves as it was: how many stages there are, their flags, stages without an op of three operands, and what is narrowed already.
use Prim.Native.Nat.{ℕ}
use mathlib.Core.Bool.{Bool, true, false, ◌||◌, cond}
use mathlib.Core.Path.{◌≡◌, refl}
use mathlib.Core.List.{List, [], ◌∷◌, map}
use lib.ListN.{length, length-map}
use Rattle.std.proofs.lemmas.Bool.{or_parts}
use Rattle.combiners.specs.Codes.{pre_modulate}
use Rattle.combiners.specs.Combiners.{three_operands}
use Rattle.cascade.specs.Effective.{narrow_op, narrow_stage, effective_stages, any_of_three, effective}
use Rattle.values.specs.Flags.{stage_flags_bad}
use Rattle.values.specs.declared.Stage.{Stage}
use Rattle.values.specs.declared.Key.{Key}

narrow_flags : (l : List Stage) → stage_flags_bad (map narrow_stage l) ≡ stage_flags_bad l
unfolding stage_flags_bad
narrow_flags [] = refl
narrow_flags (s ∷ r) = rw (narrow_flags r)

-- a key has as many stages that take effect as it has stages
pub effective-length : (k : Key) → length (effective_stages k) ≡ length k.stages
unfolding effective_stages
effective-length k = go k.wide
  where
    go : (wide : Bool) → length (cond wide k.stages (map narrow_stage k.stages)) ≡ length k.stages
    go true = refl
    go false = length-map k.stages narrow_stage

pub narrow_op_lem : (o : ℕ) → three_operands (narrow_op o) ≡ false
narrow_op_lem o = go (three_operands o) refl
  where
    go : (b : Bool) → three_operands o ≡ b → three_operands (cond b pre_modulate o) ≡ false
    go true e = refl
    go false e = e

narrow_twice : (l : List Stage) → map narrow_stage (map narrow_stage l) ≡ map narrow_stage l
narrow_twice [] = refl
narrow_twice (s ∷ r) = rw (narrow_op_lem s.colour.op, narrow_op_lem s.alpha.op, narrow_twice r)

-- without an op of three operands the stages of a key of kind 1 take effect as they are
narrow_alike : (l : List Stage) → any_of_three l ≡ false → map narrow_stage l ≡ l
unfolding any_of_three
narrow_alike [] e = refl
narrow_alike (s ∷ r) e =
    let h = or_parts (three_operands s.colour.op || three_operands s.alpha.op) _ e in
    let n = or_parts (three_operands s.colour.op) (three_operands s.alpha.op) h.0 in
    rw (n.0, n.1, narrow_alike r h.1)

pub effective_alike : (k : Key) → k.wide ≡ false → any_of_three k.stages ≡ false → effective_stages k ≡ k.stages
unfolding effective_stages
effective_alike k w e = rw w (narrow_alike k.stages e)

-- what takes effect takes effect as it is
pub effective_twice : (k : Key) → effective_stages (effective k) ≡ effective_stages k
unfolding effective_stages
effective_twice k = go k.wide
  where
    go : (wide : Bool) → cond wide (cond wide k.stages (map narrow_stage k.stages)) (map narrow_stage (cond wide k.stages (map narrow_stage k.stages)))
        ≡ cond wide k.stages (map narrow_stage k.stages)
    go true = refl
    go false = narrow_twice k.stages

pub effective_flags : (k : Key) → stage_flags_bad (effective_stages k) ≡ stage_flags_bad k.stages
unfolding effective_stages
effective_flags k = go k.wide
  where
    go : (wide : Bool) → stage_flags_bad (cond wide k.stages (map narrow_stage k.stages)) ≡ stage_flags_bad k.stages
    go true = refl
    go false = narrow_flags k.stages
