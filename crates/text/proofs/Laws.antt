-- The laws of writing: one text behind another is the two joined; a text that fits is written whole; which of two texts; a text's length.
use Prim.Native.Nat.{ℕ, zero, suc, ◌+◌, ◌/◌, ◌%◌, ◌^◌, ◌<◌, ◌≤◌}
use mathlib.Core.Bool.{Bool, true, false, cond}
use mathlib.Core.Path.{◌≡◌, refl, ap, sym, ◌∙◌, subst}
use mathlib.Core.List.{List, [], ◌∷◌, ◌++◌, append_assoc}
use mathlib.Core.Logic.{by_cases}
use native.Mathlib.Omega.{arith}
use native.Mathlib.Nat.{add-zero, zero-add}
use native.Mathlib.Decide.{dec_le}
use borrow.Author.Tests.{ne_eqb, le-leb, lt-leb, le-ltb, lt-ltb}
use lib.Dec.{eqb, eqb→eq, ltb}
use lib.ListN.{length, drop, set, length-append}
use lib.Seq.{sets, sets-eq}
use Rattle.text.specs.Text.{Text, raw, ◌⊕◌, pick, flat, size, digit, decimal, decimal_of}
use Rattle.text.specs.Marks.{filled_byte, filled}
use Rattle.text.specs.Buffer.{Placed, Wrote}

pub flat-length : (t : Text) → length (flat t) ≡ size t
flat-length (raw x) = refl
flat-length (s ⊕ t) = simp length-append (omega (arith, flat-length s, flat-length t))
flat-length (pick true s t) = flat-length s
flat-length (pick false s t) = flat-length t

-- one text behind another is the two joined
pub sets-append : (s t l : List ℕ) (i : ℕ) → sets l i (s ++ t) ≡ sets (sets l i s) (i + length s) t
sets-append [] t l i = rw add-zero
sets-append (x ∷ s) t l i = sets-append s t (set l i x) (suc i) ∙ ap (λ (k : ℕ). sets (sets (set l i x) (suc i) s) k t) (omega arith)

-- a mark filled with itself is left
kept_byte : (b : ℕ) (t : Bool) → eqb b 35 ≡ t → filled_byte 35 b ≡ b
kept_byte b true e = rw e (sym (eqb→eq b 35 (rw e tt)))
kept_byte b false e = rw e

pub kept_marks : (s : List ℕ) → filled 35 s ≡ s
kept_marks [] = refl
kept_marks (b ∷ s) = rw (kept_byte b _ refl, kept_marks s)

-- no bytes
pub nothing : (l : List ℕ) (at : ℕ) → Wrote l at l at (raw [])
nothing l at = record { kept = refl; fits = λ h. (refl, omega arith); over = λ h. omega arith }

infixr 60 ◌⨾◌
pub ◌⨾◌ : {l l₁ l₂ : List ℕ} {a a₁ a₂ : ℕ} {s t : Text} → Wrote l a l₁ a₁ s → Wrote l₁ a₁ l₂ a₂ t → Wrote l a l₂ a₂ (s ⊕ t)
◌⨾◌ {l} {l₁} {l₂} {a} {a₁} {a₂} {s} {t} p q =
    record {
      kept = q.kept ∙ p.kept;
      fits = λ h. joined (simp length-append at h);
      over = λ h. beyond (simp length-append at h);
    }
  where
    m : ℕ
    m = length (flat s)

    n : ℕ
    n = length (flat t)

    joined : a + (m + n) ≤ length l → (l₂ ≡ sets l a (flat s ++ flat t)) × (a₂ ≡ a + length (flat s ++ flat t))
    joined h =
        let e = p.fits (omega arith) in
        let f = q.fits (omega (arith, p.kept, e.1)) in
        (f.0 ∙ rw (e.0, e.1) (sym (sets-append (flat s) (flat t) l a)), simp length-append (omega (arith, e.1, f.1)))

    beyond : length l < a + (m + n) → length l < a₂
    beyond h =
        by_cases (dec_le (a + m) (length l))
        (λ k. let e = (p.fits k).1 in omega (arith, p.kept, q.over (omega (arith, e, p.kept))))
        (λ k. let f = p.over (omega (arith, k)) in omega (arith, p.kept, q.over (omega (arith, f, p.kept))))

pub keeps : {l l' : List ℕ} {a a' : ℕ} {t : Text} → Wrote l a l' a' t → length l' ≡ length l
keeps w = w.kept

-- a text that fits is written whole
pub whole : {l l' : List ℕ} {a' : ℕ} {t : Text} → Wrote l 0 l' a' t → length (flat t) ≤ length l → l' ≡ flat t ++ drop (length (flat t)) l
whole {l} {t = t} w h = (w.fits (omega arith)).0 ∙ sets-eq (flat t) l 0 (omega arith) ∙ rw zero-add

-- a text of the same bytes
pub same : {l l' : List ℕ} {a a' : ℕ} {s t : Text} → flat s ≡ flat t → Wrote l a l' a' s → Wrote l a l' a' t
same e w = record { kept = w.kept; fits = rw e at w.fits; over = rw e at w.over }

-- pieces written as one, and a text behind them
pub regroup : {l l' : List ℕ} {a a' : ℕ} {s t u : Text} → Wrote l a l' a' ((s ⊕ t) ⊕ u) → Wrote l a l' a' (s ⊕ t ⊕ u)
regroup {s = s} {t} {u} w = same (append_assoc (flat s) (flat t) (flat u)) w

pub regroup_three : {l l' : List ℕ} {a a' : ℕ} {s t u v : Text} → Wrote l a l' a' ((s ⊕ t ⊕ u) ⊕ v) → Wrote l a l' a' (s ⊕ t ⊕ u ⊕ v)
regroup_three w = same (simp append_assoc) w

-- which of two texts
pub pick_true : {l l' : List ℕ} {a a' : ℕ} {b : Bool} {s t : Text} → b ≡ true → Wrote l a l' a' s → Wrote l a l' a' (pick b s t)
pick_true e w = rw e (record { kept = w.kept; fits = w.fits; over = w.over })

pub pick_false : {l l' : List ℕ} {a a' : ℕ} {b : Bool} {s t : Text} → b ≡ false → Wrote l a l' a' t → Wrote l a l' a' (pick b s t)
pick_false e w = rw e (record { kept = w.kept; fits = w.fits; over = w.over })

-- one piece of the same bytes; which of two pieces; no piece at all
pub same_piece : {l l' : List ℕ} {a a' : ℕ} {s t : Text} → flat s ≡ flat t → Placed l a l' a' s → Placed l a l' a' t
same_piece e w = record { written = same e w.written; left = rw e at w.left }

pub first_piece : {l l' : List ℕ} {a a' : ℕ} {b : Bool} {s t : Text} → b ≡ true → Placed l a l' a' s → Placed l a l' a' (pick b s t)
first_piece e w = rw e (record { written = pick_true refl w.written; left = w.left })

pub second_piece : {l l' : List ℕ} {a a' : ℕ} {b : Bool} {s t : Text} → b ≡ false → Placed l a l' a' t → Placed l a l' a' (pick b s t)
second_piece e w = rw e (record { written = pick_false refl w.written; left = w.left })

pub no_piece : (l : List ℕ) (at : ℕ) → Placed l at l at (raw [])
no_piece l at = record { written = nothing l at; left = λ h. refl }

-- a text that depends on a test
pub by_test : {l l' : List ℕ} {a a' : ℕ} {s : Text} (t : Bool → Text) (b c : Bool) → b ≡ c → flat s ≡ flat (t c) → Wrote l a l' a' s → Wrote l a l' a' (t b)
by_test {l} {l'} {a} {a'} t b c e f w = subst (λ (b : Bool). Wrote l a l' a' (t b)) (sym e) (same f w)

-- a text by cases, of a value that is known
pub case : {A : Type 0} (t : A → Text) (x y : A) (l l' : List ℕ) (a a' : ℕ) → x ≡ y → Wrote l a l' a' (t y) → Wrote l a l' a' (t x)
case t x y l l' a a' e w = rw e w

-- a test of a number that is known
pub eqb_at : (x m n : ℕ) (b : Bool) → x ≡ m → eqb m n ≡ b → eqb x n ≡ b
eqb_at x m n b e f = rw e f

-- a number has no more digits for being allowed one more than it has
enough : (d n : ℕ) → n < 10 ^ suc d → flat (decimal_of (suc (suc d)) n) ≡ flat (decimal_of (suc d) n)
unfolding decimal_of
enough zero n h = rw (lt-ltb n 10 h)
enough (suc d) n h = ap (λ (l : List ℕ). cond (ltb n 10) ((48 + n) ∷ []) (l ++ ((48 + n % 10) ∷ []))) (enough d (n / 10) (omega arith))

-- the last digit of a number below ten is the number
pub one_digit : {l l' : List ℕ} {a a' : ℕ} (n : ℕ) → n < 10 → Wrote l a l' a' (digit (n % 10)) → Wrote l a l' a' (digit n)
one_digit n h w = let e : n % 10 ≡ n = omega arith in rw e at w

-- a number below ten is its digit, and another has its last digit behind those of its tenth part
pub only_digit : {l l' : List ℕ} {a a' : ℕ} (n : ℕ) → n < 10 → Wrote l a l' a' (digit n) → Wrote l a l' a' (decimal n)
unfolding decimal_of
only_digit n h w = pick_true (lt-ltb _ _ h) w

pub last_digit : {l l' : List ℕ} {a a' : ℕ} (n : ℕ) → 10 ≤ n → n < 2 ^ 64 → Wrote l a l' a' (decimal (n / 10) ⊕ digit (n % 10)) → Wrote l a l' a' (decimal n)
unfolding decimal_of
last_digit n h k w = pick_false (le-ltb _ _ h) (same (ap (λ (l : List ℕ). l ++ ((48 + n % 10) ∷ [])) (enough 18 (n / 10) (omega arith))) w)

-- what `search` is handed at the return of a function that writes text
pub ruleset texts = (◌⨾◌, nothing, pick_true, pick_false, eqb_at, ne_eqb, le-leb, lt-leb, le-ltb, lt-ltb)

-- what `grind` is handed at a function that writes pieces of which few are literals
pub ruleset joining = (sets-append, length-append)
