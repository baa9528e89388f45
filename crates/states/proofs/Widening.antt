-- A key of either kind as one of kind 6: its stages, and that a write does to them what it does to the key.
use Prim.Native.Nat.{ℕ, zero, suc, ◌<◌}
use mathlib.Core.Path.{◌≡◌, refl, sym, ap, ◌∙◌}
use mathlib.Core.Bool.{Bool, true, false, ◌||◌, cond}
use mathlib.Core.List.{List, [], ◌∷◌, map}
use native.Mathlib.Omega.{arith}
use lib.Dec.{eqb}
use lib.ListN.{length, get_or, set, length-map, get_or-map}
use Rattle.values.specs.declared.Stage.{Stage}
use Rattle.values.specs.declared.Key.{Key}
use Rattle.states.specs.Types.{alpha_arg0, colour_arg0, sets_arg0}
use Rattle.values.specs.Kinds.{seven_bytes}
use Rattle.states.specs.States.{default_stage, set_stage, set_state, stage_at, stages_for, wide_stages}
use Rattle.states.proofs.Stages.{neither}

-- as many stages, and each of them by the key's kind
pub wide-length : (k : Key) → length (wide_stages k) ≡ length k.stages
unfolding wide_stages
wide-length k = go k.wide
  where
    go : (wide : Bool) → length (cond wide k.stages (map seven_bytes k.stages)) ≡ length k.stages
    go true = refl
    go false = length-map k.stages seven_bytes

pub wide_stage : (i : ℕ) (k : Key) → stage_at i (wide_stages k) ≡ cond k.wide (stage_at i k.stages) (seven_bytes (stage_at i k.stages))
unfolding wide_stages
wide_stage i k = go k.wide
  where
    go : (wide : Bool) → stage_at i (cond wide k.stages (map seven_bytes k.stages)) ≡ cond wide (stage_at i k.stages) (seven_bytes (stage_at i k.stages))
    go true = refl
    go false = get_or-map seven_bytes k.stages i (default_stage 1 1)

pub for_length : (t : ℕ) (k : Key) → length (stages_for t k) ≡ length k.stages
for_length t k = go (sets_arg0 t)
  where
    go : (b : Bool) → length (cond b (wide_stages k) k.stages) ≡ length k.stages
    go true = wide-length k
    go false = refl

-- a write of another type leaves the arguments 0
seven_after : (t v : ℕ) (s : Stage) → sets_arg0 t ≡ false → seven_bytes (set_stage t v s) ≡ set_stage t v (seven_bytes s)
unfolding set_stage
seven_after t v s e = let n = neither (eqb t colour_arg0) (eqb t alpha_arg0) e in rw (n.0, n.1)

map_set : (l : List Stage) (i : ℕ) (s : Stage) → map seven_bytes (set l i s) ≡ set (map seven_bytes l) i (seven_bytes s)
map_set [] i s = refl
map_set (r ∷ l) zero s = refl
map_set (r ∷ l) (suc i) s = ap (λ (l : List Stage). seven_bytes r ∷ l) (map_set l i s)

-- some stages with the value v for the type t at stage i
abbrev pub set_in : ℕ → ℕ → ℕ → List Stage → List Stage
set_in i t v l = set l i (set_stage t v (stage_at i l))

-- the stages after a write, as those of kind 6, are those of kind 6 after the write
pub wide_after : (i t v : ℕ) (k : Key) → wide_stages (set_state i t v k) ≡ set_in i t v (wide_stages k)
unfolding set_state wide_stages
wide_after i t v k = go (sets_arg0 t) k.wide refl
  where
    go : (a wide : Bool) → sets_arg0 t ≡ a
        → cond (wide || a) (set_in i t v (cond a (cond wide k.stages (map seven_bytes k.stages)) k.stages))
        (map seven_bytes (set_in i t v (cond a (cond wide k.stages (map seven_bytes k.stages)) k.stages)))
        ≡ set_in i t v (cond wide k.stages (map seven_bytes k.stages))
    go true true e = refl
    go true false e = refl
    go false true e = refl
    go false false e =
        map_set k.stages i (set_stage t v (stage_at i k.stages))
        ∙ ap (set (map seven_bytes k.stages) i)
        (seven_after t v (stage_at i k.stages) e
        ∙ ap (set_stage t v) (sym (get_or-map seven_bytes k.stages i (default_stage 1 1))))

-- a list that has, at each index, what f makes of the element there
pub mapped : (f : Stage → Stage) (l m : List Stage) → length m ≡ length l
    → ((i : ℕ) → i < length l → get_or m i (default_stage 1 1) ≡ f (get_or l i (default_stage 1 1))) → m ≡ map f l
mapped f [] [] e h = refl
mapped f [] (s ∷ m) e h = absurd (omega arith)
mapped f (r ∷ l) [] e h = absurd (omega arith)
mapped f (r ∷ l) (s ∷ m) e h = let first = h zero (omega arith) in rw (first, mapped f l m (omega arith) (λ i b. h (suc i) (omega arith)))
