-- Lists with the same last values do the same. They also agree on whether anything is written at all, and whether an argument 0 is, since a list writes
-- something exactly where some value is its last.
use Prim.Native.Nat.{ℕ}
use mathlib.Core.Path.{◌≡◌, refl, sym, ap, ◌∙◌}
use mathlib.Core.Bool.{Bool, true, false, ◌&&◌, ◌||◌, cond, and-eq-true_iff, true≢false}
use mathlib.Core.List.{List, [], ◌∷◌}
use mathlib.Core.Option.{Option, some, none, or_else, get_or}
use borrow.Author.Tests.{eqb-true, eq-eqb}
use lib.Dec.{eqb}
use lib.ListN.{length}
use Rattle.values.specs.declared.Key.{Key}
use Rattle.values.specs.declared.StateWrite.{StateWrite}
use Rattle.states.specs.Types.{sets_arg0}
use Rattle.states.specs.States.{get_state}
use Rattle.states.specs.Writes.{accepted, any_widens, last_written, writes, writes_applied}
use Rattle.states.proofs.Stages.{neither}
use Rattle.states.proofs.LastWritten.{all_kept, kind_written, last_written_lem}
use Rattle.states.proofs.Determined.{only}

abbrev pub SameLast : List StateWrite → List StateWrite → Type 0
SameLast ws xs = (i t : ℕ) → last_written i t ws ≡ last_written i t xs

-- what a write that writes for a stage and a type is
pub named : (w : StateWrite) (i t : ℕ) → writes w i t ≡ true → (accepted w ≡ true) × (w.stage ≡ i) × (w.state ≡ t)
named w i t e =
    let p = (and-eq-true_iff (accepted w) (eqb w.stage i && eqb w.state t)).0 e in
    let q = (and-eq-true_iff (eqb w.stage i) (eqb w.state t)).0 p.1 in
    (p.0, eqb-true w.stage i q.0, eqb-true w.state t q.1)

-- whether there is a value, and so whether a list writes one for a stage and a type
abbrev is_value : Option ℕ → Bool
is_value none = false
is_value (some v) = true

abbrev written : ℕ → ℕ → List StateWrite → Bool
written i t ws = is_value (last_written i t ws)

written_first : (i t : ℕ) (w : StateWrite) (r : List StateWrite) → written i t (w ∷ r) ≡ (written i t r || writes w i t)
unfolding last_written or_else
written_first i t w r = go (last_written i t r) (writes w i t)
  where
    go : (o : Option ℕ) (b : Bool) → is_value (or_else o (cond b (some w.value) none)) ≡ (is_value o || b)
    go (some v) b = refl
    go none true = refl
    go none false = refl

-- whether a list writes a type that has p
module _ (p : ℕ → Bool) where
  unfoldable pub any_of : List StateWrite → Bool
  any_of [] = false
  any_of (w ∷ r) = (accepted w && p w.state) || any_of r

  -- it writes none exactly where it has no value for such a type
  Unwritten : List StateWrite → Type 0
  Unwritten ws = (i t : ℕ) → p t ≡ true → written i t ws ≡ false

  unwritten : (ws : List StateWrite) → any_of ws ≡ false → Unwritten ws
  unfolding any_of last_written Unwritten
  unwritten [] e i t h = refl
  unwritten (w ∷ r) e i t h =
      let n = neither (accepted w && p w.state) (any_of r) e in
      written_first i t w r ∙ rw (unwritten r n.1 i t h) (go (writes w i t) refl n.0)
    where
      go : (b : Bool) → writes w i t ≡ b → (accepted w && p w.state) ≡ false → b ≡ false
      go true f n = let q = named w i t f in absurd (true≢false (sym (rw (q.0, q.2) h) ∙ n))
      go false f n = refl

  none_of : (ws : List StateWrite) → Unwritten ws → any_of ws ≡ false
  unfolding any_of Unwritten
  none_of [] h = refl
  none_of (w ∷ r) h =
      let parts : (i t : ℕ) → p t ≡ true → (written i t r ≡ false) × (writes w i t ≡ false) =
      λ i t q. neither (written i t r) (writes w i t) (sym (written_first i t w r) ∙ h i t q) in
      rw (none_of r (λ i t q. (parts i t q).0)) (go (accepted w) (p w.state) refl refl (λ q. (parts w.stage w.state q).1))
    where
      go : (a b : Bool) → accepted w ≡ a → p w.state ≡ b → (p w.state ≡ true → writes w w.stage w.state ≡ false) → (a && b || false) ≡ false
      go true true e f n = absurd (true≢false (sym (rw (e, eq-eqb w.stage w.stage refl, eq-eqb w.state w.state refl)) ∙ n f))
      go true false e f n = refl
      go false b e f n = refl

  pub same_any : (ws xs : List StateWrite) → SameLast ws xs → any_of ws ≡ any_of xs
  unfolding Unwritten
  same_any ws xs h = go (any_of ws) (any_of xs) refl refl
    where
      go : (a b : Bool) → any_of ws ≡ a → any_of xs ≡ b → a ≡ b
      go true true e f = refl
      go false false e f = refl
      go true false e f = sym e ∙ none_of ws (λ i t q. ap is_value (h i t) ∙ unwritten xs f i t q)
      go false true e f = sym (none_of xs (λ i t q. ap is_value (sym (h i t)) ∙ unwritten ws e i t q)) ∙ f

widens_any : (ws : List StateWrite) → any_widens ws ≡ any_of sets_arg0 ws
unfolding any_widens any_of
widens_any [] = refl
widens_any (w ∷ r) = ap (λ (b : Bool). (accepted w && sets_arg0 w.state) || b) (widens_any r)

pub same_key : (ws xs : List StateWrite) (k : Key) → length k.stages ≡ 8 → SameLast ws xs → writes_applied ws k ≡ writes_applied xs k
same_key ws xs k eight h =
    only xs k (writes_applied ws k) eight (all_kept ws k eight)
    (λ i t. last_written_lem ws k eight i t ∙ ap (λ (o : Option ℕ). get_or o (get_state i t k)) (h i t))
    (kind_written ws k ∙ ap (λ (b : Bool). k.wide || b) (widens_any ws ∙ same_any sets_arg0 ws xs h ∙ sym (widens_any xs)))
