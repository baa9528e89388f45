-- What a stage holds after a write of one state: the value for its type, and for every other type what it held.
use Prim.Native.Nat.{ℕ, zero, suc, ◌<◌, ◌/◌}
use mathlib.Core.Path.{◌≡◌, refl, ap, ◌∙◌}
use mathlib.Core.Bool.{Bool, true, false, ◌||◌, cond, true≢false}
use mathlib.Core.List.{List, [], ◌∷◌, map}
use native.Mathlib.Omega.{arith}
use borrow.Author.Tests.{eqb-true, leb-false, lt-leb}
use lib.Dec.{eqb, leb}
use lib.ListN.{length, get_or}
use Rattle.values.specs.declared.Stage.{Stage}
use Rattle.values.specs.Flags.{stage_flags_bad}
use Rattle.states.specs.declared.state.StageState.{StageState}
use Rattle.states.specs.declared.state.StageState.TheVariants as state
use Rattle.states.specs.Types.{among, is_type, sets_arg0, state_number, takes, state_types}
use Rattle.states.specs.States.{set_stage, stage_state, stage_states, value_of}
use Rattle.states.proofs.Bits.{flags_after}

-- an element that is there does not depend on what would stand for a missing one
pub get_or_there : (l : List Stage) (i : ℕ) (d e : Stage) → i < length l → get_or l i d ≡ get_or l i e
get_or_there [] i d e h = absurd (omega arith)
get_or_there (s ∷ l) zero d e h = refl
get_or_there (s ∷ l) (suc i) d e h = get_or_there l i d e (omega arith)

pub neither : (a b : Bool) → (a || b) ≡ false → (a ≡ false) × (b ≡ false)
neither true b e = absurd (true≢false e)
neither false b e = (refl, e)

-- stages are free of cause 3 where their flags have no bit 2 to 7
pub no_spare : (l : List Stage) (i : ℕ) (d : Stage) → stage_flags_bad l ≡ false → i < length l → (get_or l i d).flags / 4 ≡ 0
unfolding stage_flags_bad
no_spare [] i d e h = absurd (omega arith)
no_spare (s ∷ l) zero d e h = omega (arith, leb-false 4 s.flags (neither (leb 4 s.flags) (stage_flags_bad l) e).0)
no_spare (s ∷ l) (suc i) d e h = no_spare l i d (neither (leb 4 s.flags) (stage_flags_bad l) e).1 (omega arith)

pub spare_free : (l : List Stage) (d : Stage) → ((i : ℕ) → i < length l → (get_or l i d).flags / 4 ≡ 0) → stage_flags_bad l ≡ false
unfolding stage_flags_bad
spare_free [] d h = refl
spare_free (s ∷ l) d h =
    let first : s.flags / 4 ≡ 0 = h zero (omega arith) in
    rw (lt-leb 4 s.flags (omega arith)) (spare_free l d (λ i b. h (suc i) (omega arith)))

module _ (t v : ℕ) where
  -- a row of a stage's states after the write
  abbrev row : ℕ × ℕ → ℕ × ℕ
  row e = (e.0, cond (eqb t e.0) v e.1)

  abbrev types_of : List (ℕ × ℕ) → List ℕ
  types_of l = map (λ e. e.0) l

  looked : (u : ℕ) (l : List (ℕ × ℕ)) → value_of u (map row l) ≡ cond (eqb t u) (cond (among u (types_of l)) v 0) (value_of u l)
  looked u [] = go (eqb t u)
    where
      go : (b : Bool) → ◌≡◌ {A = ℕ} 0 (cond b 0 0)
      go true = refl
      go false = refl
  looked u (e ∷ l) = go (looked u l) (eqb u e.0) refl
    where
      go : value_of u (map row l) ≡ cond (eqb t u) (cond (among u (types_of l)) v 0) (value_of u l) → (b : Bool) → eqb u e.0 ≡ b
          → value_of u (map row (e ∷ l)) ≡ cond (eqb t u) (cond (among u (types_of (e ∷ l))) v 0) (value_of u (e ∷ l))
      go more true h = let z = eqb-true u e.0 h in rw (h, z)
      go more false h = rw h more

  found : among t state_types ≡ true → (u : ℕ) (l : List (ℕ × ℕ)) → types_of l ≡ state_types → value_of u (map row l) ≡ cond (eqb t u) v (value_of u l)
  found k u l e = looked u l ∙ go (eqb t u) refl
    where
      go : (b : Bool) → eqb t u ≡ b → cond (eqb t u) (cond (among u (types_of l)) v 0) (value_of u l) ≡ cond (eqb t u) v (value_of u l)
      go true h = let z = eqb-true t u h in rw (h, e, ← z, k)
      go false h = rw h

  rows : (s : Stage) → takes t v ≡ true → stage_states (set_stage t v s) ≡ map row (stage_states s)
  unfolding set_stage
  rows s k = let f = flags_after t v s.flags k in rw (f.result, f.bound)

  pub stage_after : (s : Stage) → is_type t ≡ true → takes t v ≡ true → (u : ℕ) → stage_state u (set_stage t v s) ≡ cond (eqb t u) v (stage_state u s)
  unfolding stage_state
  stage_after s h k u = ap (value_of u) (rows s k) ∙ found h u (stage_states s) refl

-- a number that is no type leaves a stage, and sets no argument 0
pub other_type : (t v : ℕ) (s : Stage) → is_type t ≡ false → (set_stage t v s ≡ s) × (sets_arg0 t ≡ false)
unfolding set_stage
other_type t v s e = grind (arith, neither)

-- the number of a state is a type
pub named_type : (n : ℕ) (s : StageState) → state_number s ≡ n → is_type n ≡ true
named_type n s e = rw (← e) (go s)
  where
    go : (s : StageState) → is_type (state_number s) ≡ true
    go state.ColorOp = refl
    go state.ColorArg1 = refl
    go state.ColorArg2 = refl
    go state.AlphaOp = refl
    go state.AlphaArg1 = refl
    go state.AlphaArg2 = refl
    go state.ColorArg0 = refl
    go state.AlphaArg0 = refl
    go state.ResultArg = refl
    go state.TextureBound = refl
