-- Tests joined by `&&`, `||` and `not`, as facts; a test of every number below a bound.
use Prim.Native.Nat.{ℕ, zero, suc, ◌<◌, ◌≤◌}
use mathlib.Core.Path.{◌≡◌, refl, subst}
use mathlib.Core.Bool.{Bool, true, false, not, ◌&&◌, ◌||◌, cond}
use native.Mathlib.Omega.{arith}
use lib.Dec.{T, leb, leb→le, nleb→lt}

pub true_of : (b : Bool) → T b → b ≡ true
true_of true t = refl
true_of false t = absurd t

pub false_of : (b : Bool) → T (not b) → b ≡ false
false_of true t = absurd t
false_of false t = refl

pub and_fst : (a b : Bool) → T (a && b) → T a
and_fst true b t = tt
and_fst false b t = absurd t

pub and_snd : (a b : Bool) → T (a && b) → T b
and_snd true b t = t
and_snd false b t = absurd t

pub both : (a b : Bool) → T a → T b → T (a && b)
both true b s t = t
both false b s t = absurd s

pub inl : (a b : Bool) → T a → T (a || b)
inl true b t = tt
inl false b t = absurd t

pub inr : (a b : Bool) → T b → T (a || b)
inr true b t = tt
inr false b t = t

pub either {ℓ} : {C : Type ℓ} (a b : Bool) → (T a → C) → (T b → C) → T (a || b) → C
either true b f g t = f tt
either false b f g t = g t

pub other : (a b : Bool) → T (a || b) → T (not a) → T b
other true b t n = absurd n
other false b t n = t

pub implied : (a b : Bool) → T (not a || b) → T a → T b
implied true b t s = t
implied false b t s = absurd s

pub neither_fst : (a b : Bool) → T (not (a || b)) → T (not a)
neither_fst true b t = t
neither_fst false b t = tt

pub neither_snd : (a b : Bool) → T (not (a || b)) → T (not b)
neither_snd true b t = absurd t
neither_snd false b t = t

-- a choice by a test, where the test is known to pass or to fail
pub cond_cases {ℓ κ} : {A : Type ℓ} (b : Bool) (x y : A) (P : A → Type κ) → (T b → P x) → (T (not b) → P y) → P (cond b x y)
cond_cases true x y P f g = f tt
cond_cases false x y P f g = g tt

-- a test of every number below a bound
abbrev pub below : ℕ → (ℕ → Bool) → Bool
below zero f = true
below (suc n) f = f n && below n f

pub below_at : (f : ℕ → Bool) (n i : ℕ) → T (below n f) → i < n → T (f i)
below_at f zero i t h = absurd (omega arith)
below_at f (suc n) i t h = go (leb n i) (leb→le n i) (nleb→lt n i) (below_at f n i (and_snd (f n) (below n f) t))
  where
    go : (b : Bool) → (T b → n ≤ i) → (T (not b) → i < n) → (i < n → T (f i)) → T (f i)
    go true p q r = let e : n ≡ i = omega (arith, p tt) in subst (λ (m : ℕ). T (f m)) e (and_fst (f n) (below n f) t)
    go false p q r = r (q tt)
