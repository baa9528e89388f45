-- A number that is not 0 leaves what is lent, and no later number counts.
use Prim.Native.Nat.{ℕ, ◌≤◌}
use mathlib.Core.Bool.{Bool, true, false, cond, true≢false}
use mathlib.Core.Path.{◌≡◌, refl, sym, ap, ◌∙◌}
use mathlib.Core.List.{List, [], ◌∷◌, append-nil}
use native.Mathlib.Omega.{arith}
use borrow.Rule.Slice.PartMut.{put_mid}
use borrow.Author.Tests.{ne_eqb, eqb-true}
use lib.Dec.{eqb}
use lib.ListN.{length, set, drop_of_length-le}
use Rattle.yuzuknoll.specs.Lent.{after, first_of}

pub left : {n : ℕ} (new old : List ℕ) → (n ≡ 0 → ⊥) → old ≡ after n new old
left {n} new old h = rw (ne_eqb n 0 h)

pub first_refused : {n a : ℕ} (b : ℕ) → n ≡ a → (n ≡ 0 → ⊥) → n ≡ first_of a b
first_refused {n} b e h = rw (← e, ne_eqb n 0 h)

pub first_passed : {n a b m : ℕ} → n ≡ a → n ≡ 0 → m ≡ b → m ≡ first_of a b
first_passed e z q = rw (← e, z) q

pub first_zero : (a b : ℕ) → first_of a b ≡ 0 → (a ≡ 0) × (b ≡ 0)
first_zero a b e = go (eqb a 0) refl e
  where
    go : (t : Bool) → eqb a 0 ≡ t → cond t b a ≡ 0 → (a ≡ 0) × (b ≡ 0)
    go true p z = (eqb-true a 0 p, z)
    go false p z = absurd (true≢false (sym (ap (λ n. eqb n 0) z) ∙ p))
