-- A bit as a byte; and the flags of a stage after a write of one of their two bits.
use Prim.Native.Nat.{ℕ, ◌+◌, ◌*◌, ◌/◌, ◌%◌, ◌≤◌}
use mathlib.Core.Path.{◌≡◌, refl}
use mathlib.Core.Bool.{Bool, true, false, ◌||◌, cond}
use native.Mathlib.Omega.{arith}
use borrow.Author.Tests.{eqb-true, eq-eqb, ne_eqb}
use lib.Dec.{eqb}
use mir.Val.{bool_byte}
use Rattle.states.specs.Types.{result_arg, takes, texture_bound}
use Rattle.states.specs.States.{bound_of, result_arg_of, set_flags, with_bound, with_result}

pub bit_byte : (b : Bool) → bool_byte b ≡ cond b 1 0
bit_byte true = refl
bit_byte false = refl

pub bit_small : (b : Bool) → bool_byte b ≤ 1
bit_small true = omega arith
bit_small false = omega arith

small : (b : Bool) → cond b 1 0 ≤ 1
small true = omega arith
small false = omega arith

-- one of two tests holds
pub either : {P : Type 0} (a b : Bool) → (a || b) ≡ true → (a ≡ true → P) → (b ≡ true → P) → P
either true b e f g = f refl
either false b e f g = g e

module _ (v f : ℕ) where
  -- a texture's write sets bit 0 and leaves the others
  bound_after_bound : (eqb v 0 || eqb v 1) ≡ true → bound_of (with_bound v f) ≡ v
  bound_after_bound e =
      either (eqb v 0) (eqb v 1) e
      (λ h. let z = eqb-true v 0 h in rw z (omega arith))
      (λ h. let z = eqb-true v 1 h in rw z (omega arith))

  result_after_bound : result_arg_of (with_bound v f) ≡ result_arg_of f
  result_after_bound =
      let e : (cond (eqb v 1) 1 0 + 2 * (f / 2)) / 2 % 2 ≡ f / 2 % 2 = omega (arith, small (eqb v 1)) in
      rw e

  rest_after_bound : with_bound v f / 4 ≡ f / 4
  rest_after_bound = omega (arith, small (eqb v 1))

  -- a result's write sets bit 1 and leaves the others
  result_after_result : (eqb v 1 || eqb v 5) ≡ true → result_arg_of (with_result v f) ≡ v
  result_after_result e =
      either (eqb v 1) (eqb v 5) e
      (λ h. let z = eqb-true v 1 h in rw (z, eq-eqb ((f % 2 + (2 * 0 + 4 * (f / 4))) / 2 % 2) 0 (omega arith)))
      (λ h. let z = eqb-true v 5 h in rw (z, ne_eqb ((f % 2 + (2 * 1 + 4 * (f / 4))) / 2 % 2) 0 (λ n. omega arith)))

  bound_after_result : bound_of (with_result v f) ≡ bound_of f
  bound_after_result = omega arith

  rest_after_result : with_result v f / 4 ≡ f / 4
  rest_after_result = omega (arith, small (eqb v 5))

-- what the flags say of result and texture after a write, and that their other bits stay
pub record FlagsAfter (t v f : ℕ) : Type 0 where
  pub result : result_arg_of (set_flags t v f) ≡ cond (eqb t result_arg) v (result_arg_of f)
  pub bound : bound_of (set_flags t v f) ≡ cond (eqb t texture_bound) v (bound_of f)
  pub rest : set_flags t v f / 4 ≡ f / 4

pub flags_after : (t v f : ℕ) → takes t v ≡ true → FlagsAfter t v f
flags_after t v f k = go (eqb t result_arg) (eqb t texture_bound) refl refl
  where
    go : (a b : Bool) → eqb t result_arg ≡ a → eqb t texture_bound ≡ b → FlagsAfter t v f
    go true true p q = absurd (omega (arith, eqb-true t 28 p, eqb-true t 0 q))
    go true false p q =
        let named = rw p at k in
        record { result = rw p (result_after_result v f named); bound = rw (p, q) (bound_after_result v f); rest = rw p (rest_after_result v f) }
    go false true p q =
        let named = rw (p, q) at k in
        record { result = rw (p, q) (result_after_bound v f); bound = rw (p, q) (bound_after_bound v f named); rest = rw (p, q) (rest_after_bound v f) }
    go false false p q = record { result = rw (p, q); bound = rw (p, q); rest = rw (p, q) }
