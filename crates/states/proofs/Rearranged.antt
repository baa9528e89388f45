-- Request Ten: writes of different states may change places, a write done twice is done once, and a list in which no state is written twice may be
-- rearranged. In each case the last values stay the same, and they determine what is left.
use Prim.Native.Nat.{ℕ}
use mathlib.Core.Path.{◌≡◌, refl, sym, ap, ◌∙◌}
use mathlib.Core.Bool.{Bool, true, false, ◌&&◌, cond, true≢false}
use mathlib.Core.List.Permᴰ
use mathlib.Core.List.Pairwise
use mathlib.Core.List.{List, [], ◌∷◌, mem-cons_self, reverse}
use mathlib.Core.Option.{Option, some, none, or_else}
use mathlib.Core.HLevel.{¬_prop}
use lib.ListN.{length}
use Rattle.values.specs.declared.Key.{Key}
use Rattle.values.specs.declared.StateWrite.{StateWrite}
use Rattle.states.specs.States.{defaults}
use Rattle.states.specs.Writes.{last_written, writes, writes_applied}
use Rattle.states.specs.Rearranging.{Different, MayChangePlaces, NoneTwice, Rearrangement}
use Rattle.states.proofs.Keys.{defaults_eight}
use Rattle.states.proofs.SameLast.{SameLast, named, same_key}

-- what a write writes for a stage and a type, if anything
abbrev wrote : ℕ → ℕ → StateWrite → Option ℕ
wrote i t w = cond (writes w i t) (some w.value) none

-- of two different writes one at most is of a given stage and type
apart : (w x : StateWrite) → Different w x → (i t : ℕ) → (writes w i t && writes x i t) ≡ false
apart w x n i t = go (writes w i t) (writes x i t) refl refl
  where
    go : (a b : Bool) → writes w i t ≡ a → writes x i t ≡ b → (a && b) ≡ false
    go true true e f = let p = named w i t e in let q = named x i t f in absurd (n (p.1 ∙ sym q.1, p.2 ∙ sym q.2))
    go true false e f = refl
    go false b e f = refl

-- such writes may change places in front of a list
exchanged : (w x : StateWrite) (r : List StateWrite) → Different w x → SameLast (w ∷ x ∷ r) (x ∷ w ∷ r)
unfolding last_written or_else
exchanged w x r n i t = go (last_written i t r) (writes w i t) (writes x i t) (apart w x n i t)
  where
    go : (o : Option ℕ) (a b : Bool) → (a && b) ≡ false
        → or_else (or_else o (cond b (some x.value) none)) (cond a (some w.value) none)
        ≡ or_else (or_else o (cond a (some w.value) none)) (cond b (some x.value) none)
    go (some v) a b e = refl
    go none true true e = absurd (true≢false e)
    go none true false e = refl
    go none false true e = refl
    go none false false e = refl

twice : (w : StateWrite) → SameLast (w ∷ w ∷ []) (w ∷ [])
unfolding last_written or_else
twice w i t = go (writes w i t)
  where
    go : (b : Bool) → or_else (cond b (some w.value) none) (cond b (some w.value) none) ≡ cond b (some w.value) none
    go true = refl
    go false = refl

rearranged : {ws xs : List StateWrite} → Rearrangement ws xs → NoneTwice ws → SameLast ws xs
unfolding last_written
rearranged Permᴰ.nil d i t = refl
rearranged (Permᴰ.cons {a = w} {l₂ = xs} e p) (Pairwise.cons f d) i t =
    ap (λ (o : Option ℕ). or_else o (wrote i t w)) (rearranged p d i t) ∙ ap (λ (y : StateWrite). last_written i t (y ∷ xs)) e
rearranged (Permᴰ.swap {a = w} {b = x} {a' = x'} {l = r} e g) (Pairwise.cons f d) i t =
    exchanged w x r (f x mem-cons_self) i t
    ∙ ap (λ (y : StateWrite). last_written i t (y ∷ w ∷ r)) g
    ∙ ap (λ (y : StateWrite). last_written i t (x' ∷ y ∷ r)) e
rearranged (Permᴰ.trans p q) d i t =
    let different = Permᴰ.pairwise (λ w x. ¬_prop) (λ w x n e. n (sym e.0, sym e.1)) p d in
    rearranged p d i t ∙ rearranged q different i t

-- So the law holds of whatever the last values determine.
pub by_last : {S : Type 0} (after : List StateWrite → S → S) (s : S) → ((ws xs : List StateWrite) → SameLast ws xs → after ws s ≡ after xs s)
    → MayChangePlaces after s
by_last after s same =
    record {
      either = λ w x n. same (w ∷ x ∷ []) (x ∷ w ∷ []) (exchanged w x [] n);
      once = λ w. same (w ∷ w ∷ []) (w ∷ []) (twice w);
      any = λ ws xs p d. same ws xs (rearranged p d);
    }

pub of_keys : (k : Key) → length k.stages ≡ 8 → MayChangePlaces writes_applied k
of_keys k eight = by_last writes_applied k (λ ws xs. same_key ws xs k eight)

-- a key that begins from the defaults
pub of_defaults : MayChangePlaces writes_applied defaults
of_defaults = of_keys defaults defaults_eight

-- for example the list from its end
pub reversed : (ws : List StateWrite) (k : Key) → length k.stages ≡ 8 → NoneTwice ws → writes_applied ws k ≡ writes_applied (reverse ws) k
reversed ws k eight d = (of_keys k eight).any ws (reverse ws) (Permᴰ.symm (Permᴰ.reverse ws)) d
