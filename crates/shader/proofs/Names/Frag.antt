-- How the check goes through a text part by part.
use Prim.Native.Nat.{ℕ, suc, ◌≤◌}
use mathlib.Core.Path.{◌≡◌, ap, sym, ◌∙◌}
use mathlib.Core.List.{List, [], ◌∷◌, ◌++◌, append_assoc}
use mathlib.Core.Bool.{Bool, true, false, not, ◌||◌, cond}
use native.Mathlib.Omega.{arith}
use lib.Dec.{T}
use Rattle.text.specs.Text.{Text, ◌⊕◌, pick, flat}
use Rattle.values.specs.Entries.{continues_name}
use Rattle.values.specs.Listed.{Name}
use Rattle.shader.specs.Names.{same_name, Token, tokens, Occurrence, declaration, usage, row}
use Rattle.shader.specs.Demand.{is_texel}
use Rattle.shader.proofs.Names.Truth.{inr, false_of}
use Rattle.shader.proofs.Names.Scan.{scan, breaks}
use Rattle.shader.proofs.Names.Check.{Aim, Known, Holds, declaring}

-- K' knows the names that K knows
abbrev pub Has : Known → Known → Type 0
Has K K' = (n : Name) → T (K.has n) → T (K'.has n)

pub has_more : (A : Aim) (n : Name) (K : Known) → Has K (declaring A n K)
has_more A n K m t = inr (same_name m n) (K.has m) t

-- x, read by one who knows K, behind the tokens b, leaves one who knows K', behind b'
pub record Reads (A : Aim) (K : Known) (b : List Token) (x : List ℕ) (K' : Known) (b' : List Token) : Type 0 where
  pub on : (r : List ℕ) → Holds A K' (scan b' (tokens r)) → Holds A K (scan b (tokens (x ++ r)))

-- a literal text: what its occurrences need computes
pub literal : {A : Aim} {K K' : Known} {b b' : List Token} {x : List ℕ}
    → ((r : List ℕ) → Holds A K' (scan b' (tokens r)) → Holds A K (scan b (tokens (x ++ r)))) → Reads A K b x K' b'
literal h = record { on = h }

-- one part behind another
pub append : (A : Aim) (K : Known) (b : List Token) (x y r : List ℕ) → Holds A K (scan b (tokens (x ++ (y ++ r))))
    → Holds A K (scan b (tokens ((x ++ y) ++ r)))
append A K b x y r h = rw (append_assoc x y r) h

infixr 60 ◌⨾◌
pub ◌⨾◌ : {A : Aim} {K K₁ K₂ : Known} {b b₁ b₂ : List Token} {x y : List ℕ} → Reads A K b x K₁ b₁ → Reads A K₁ b₁ y K₂ b₂
    → Reads A K b (x ++ y) K₂ b₂
◌⨾◌ {A} {K} {b = b} {x = x} {y = y} f g = literal (λ r k. append A K b x y r (f.on (y ++ r) (g.on r k)))

-- no text
pub done : {A : Aim} {K : Known} {b : List Token} → Reads A K b [] K b
done = literal (λ r k. k)

-- A fragment: a part that declares nothing and uses what is known, where no word goes on behind it.
pub record Frag (A : Aim) (K : Known) (t : Text) : Type 0 where
  pub reads : (K' : Known) → Has K K' → (r : List ℕ) → T (breaks r) → Holds A K' (scan [] (tokens r))
      → Holds A K' (scan [] (tokens (flat t ++ r)))

-- a fragment that ends in a mark
pub closed : {A : Aim} {K : Known} {t : Text} → ((K' : Known) → Has K K' → Reads A K' [] (flat t) K' []) → Frag A K t
closed h = record { reads = λ K' u r t. (h K' u).on r }

-- a fragment, and what follows it
pub arg : {A : Aim} {K K' : Known} {b : List Token} {t : Text} {y : List ℕ} {c : ℕ} → Frag A K t → T (not (continues_name c))
    → Reads A K [] (c ∷ y) K' b → Reads A K [] (flat t ++ (c ∷ y)) K' b
arg {A} {K} {t = t} {y = y} {c = c} f m h =
    literal (λ r k. append A K [] (flat t) (c ∷ y) r (f.reads K (λ n s. s) ((c ∷ y) ++ r) m (h.on r k)))

-- a mark stands first
abbrev pub opens : List ℕ → Bool
opens [] = false
opens (c ∷ x) = not (continues_name c)

pub opens-append : (x r : List ℕ) → T (opens x) → T (breaks (x ++ r))
opens-append [] r t = absurd t
opens-append (c ∷ x) r t = t

-- a fragment, and another that a mark begins
pub followed : {A : Aim} {K : Known} {s t : Text} → Frag A K s → Frag A K t → T (opens (flat t)) → Frag A K (s ⊕ t)
followed {A} {s = s} {t = t} f g m =
    record {
      reads = λ K' u r e k.
          append A K' [] (flat s) (flat t) r (f.reads K' u (flat t ++ r) (opens-append (flat t) r m) (g.reads K' u r e k));
    }

-- one of two
pub pick_frag : {A : Aim} {K : Known} {b : Bool} {s t : Text} → (T b → Frag A K s) → (T (not b) → Frag A K t) → Frag A K (pick b s t)
pick_frag {b = true} f g = record { reads = (f tt).reads }
pick_frag {b = false} f g = record { reads = (g tt).reads }

-- K' knows no less than K
pub record Under (K K' : Known) : Type 0 where
  pub more : Has K K'
  pub lower : K'.next ≤ K.next
  pub same : K.seen ≡ K'.seen

or_map : (a b c : Bool) → (T b → T c) → T (a || b) → T (a || c)
or_map true b c f t = tt
or_map false b c f t = f t

pub declaring_more : (A : Aim) (n : Name) (K K' : Known) → Has K K' → Has (declaring A n K) (declaring A n K')
declaring_more A n K K' u m t = or_map (same_name m n) (K.has m) (K'.has m) (u m) t

-- to know more does no harm
pub forget : (A : Aim) (l : List Occurrence) (K K' : Known) → Under K K' → Holds A K l → Holds A K' l
forget A [] K K' u h = sym u.same ∙ h
forget A (declaration m ∷ l) K K' u h = (
  (omega (arith, h.0.0, u.lower), h.0.1),
  forget A l (declaring A m K) (declaring A m K') (record {
    more =
        declaring_more A m K K' u.more;
    lower = omega arith;
    same = ap (λ (s : ℕ). cond (is_texel m) (suc s) s) u.same;
  })
      h.1,
)
forget A (usage m ∷ l) K K' u h = (u.more m h.0, forget A l K K' u h.1)
forget A (row k ∷ l) K K' u h = (h.0, forget A l K K' u h.1)

pub loses : {A : Aim} {K K₁ K₂ : Known} {b b' : List Token} {x : List ℕ} → Under K₂ K₁ → Reads A K b x K₁ b' → Reads A K b x K₂ b'
loses {A} {K₁ = K₁} {K₂ = K₂} {b' = b'} u f = literal (λ r k. f.on r (forget A (scan b' (tokens r)) K₂ K₁ u k))

-- a name that was declared before another, and is no longer needed
pub forgotten : (A : Aim) (m n : Name) (K : Known) → T (not (is_texel m)) → Under (declaring A n K) (declaring A n (declaring A m K))
forgotten A m n K t =
    record { more = declaring_more A n K (declaring A m K) (has_more A m K); lower = omega arith; same = rw (false_of (is_texel m) t) }
