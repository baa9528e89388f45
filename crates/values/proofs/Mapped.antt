-- A list that is mapped in place, one element after the other: the first i are mapped, and those behind them are as they were.
use Prim.Native.Nat.{ℕ, zero, suc, ◌+◌, ◌≤◌, ◌<◌}
use mathlib.Core.Path.{◌≡◌, refl, ap}
use mathlib.Core.List.{List, [], ◌∷◌, map}
use native.Mathlib.Omega.{arith}
use native.Mathlib.Numerals.{add-one}
use lib.ListN.{length, get_or, set}

unfoldable pub first_mapped : {A : Type 0} → (A → A) → ℕ → List A → List A
first_mapped f zero l = l
first_mapped f (suc i) [] = []
first_mapped f (suc i) (a ∷ r) = f a ∷ first_mapped f i r

module _ {A : Type 0} (f : A → A) where
  pub all_mapped : (i : ℕ) (l : List A) → length l ≤ i → first_mapped f i l ≡ map f l
  unfolding first_mapped
  all_mapped zero [] h = refl
  all_mapped zero (a ∷ r) h = absurd (omega arith)
  all_mapped (suc i) [] h = refl
  all_mapped (suc i) (a ∷ r) h = ap (λ (l : List A). f a ∷ l) (all_mapped i r (omega arith))

  -- one more is mapped by storing it
  stored : (i : ℕ) (l : List A) (d : A) → i < length l → set (first_mapped f i l) i (f (get_or l i d)) ≡ first_mapped f (suc i) l
  unfolding first_mapped
  stored i [] d h = absurd (omega arith)
  stored zero (a ∷ r) d h = refl
  stored (suc i) (a ∷ r) d h = ap (λ (l : List A). f a ∷ l) (stored i r d (omega arith))

  pub next_mapped : (l : List A) (i : ℕ) (d : A) → i < length l → set (first_mapped f i l) i (f (get_or l i d)) ≡ first_mapped f (i + 1) l
  next_mapped l i d h = rw add-one (stored i l d h)
