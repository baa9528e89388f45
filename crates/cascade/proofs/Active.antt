-- The active stages are the first ones, as many as the count says; a walk over them goes by the rest of the list.
use Prim.Native.Nat.{ℕ, suc, ◌+◌, ◌<◌, ◌≤◌}
use mathlib.Core.Bool.{Bool, true, false, cond}
use mathlib.Core.Path.{◌≡◌, refl}
use mathlib.Core.List.{List, [], ◌∷◌}
use native.Mathlib.Omega.{arith}
use native.Mathlib.Numerals.{add-one}
use borrow.Author.Tests.{ne_eqb}
use lib.Dec.{eqb}
use lib.ListN.{length, take, drop, get_or, drop_of_length-le}
use lib.Seq.{drop-cons}
use Rattle.combiners.specs.Codes.{disable}
use Rattle.cascade.specs.Keys.{active, active_count}
use Rattle.values.specs.declared.Stage.{Stage}

module _ (b : Bool) (s : Stage) (r : List Stage) (n : ℕ) where
  cond_take : active r ≡ take n r → cond b [] (s ∷ active r) ≡ take (cond b 0 (suc n)) (s ∷ r)
  cond_take = go b
    where
      go : (b : Bool) → active r ≡ take n r → cond b [] (s ∷ active r) ≡ take (cond b 0 (suc n)) (s ∷ r)
      go true h = refl
      go false h = rw h

  cond_le : n ≤ length r → cond b 0 (suc n) ≤ suc (length r)
  cond_le = go b
    where
      go : (b : Bool) → n ≤ length r → cond b 0 (suc n) ≤ suc (length r)
      go true h = omega arith
      go false h = omega arith

pub active-take : (l : List Stage) → active l ≡ take (active_count l) l
unfolding active active_count
active-take [] = refl
active-take (s ∷ r) = cond_take (eqb s.colour.op disable) s r (active_count r) (active-take r)

pub count_le : (l : List Stage) → active_count l ≤ length l
unfolding active_count
count_le [] = omega arith
count_le (s ∷ r) = cond_le (eqb s.colour.op disable) s r (active_count r) (count_le r)

-- the count, as far as it has come
pub over : (l : List Stage) (i : ℕ) → length l ≤ i → active_count (drop i l) ≡ 0
unfolding active_count
over l i h = rw (drop_of_length-le l h)

pub off : (l : List Stage) (i : ℕ) (d : Stage) → i < length l → (get_or l i d).colour.op ≡ disable → active_count (drop i l) ≡ 0
unfolding active_count
off l i d h e = rw (drop-cons l i d h, e)

pub on : (l : List Stage) (i : ℕ) (d : Stage) → i < length l → ((get_or l i d).colour.op ≡ disable → ⊥)
    → active_count (drop i l) ≡ suc (active_count (drop (i + 1) l))
unfolding active_count
on l i d h e = rw (add-one, drop-cons l i d h, ne_eqb _ _ e)
