-- A check that goes through the occurrences once, and is enough for demand 3; and what may be declared, for no idle local.
use Prim.Native.Nat.{ℕ, suc, ◌+◌, ◌≤◌, ◌<◌}
use mathlib.Core.Path.{◌≡◌, refl, ap, sym, subst}
use mathlib.Core.List.{List, [], ◌∷◌, ◌++◌, append-nil}
use mathlib.Core.Bool.{Bool, true, false, ◌&&◌, ◌||◌, cond}
use native.Mathlib.Omega.{arith}
use lib.Dec.{T, eqb, eqb→eq, eqb_refl}
use Rattle.values.specs.Listed.{Name, name}
use Rattle.shader.specs.Names.{same_name, Occurrence, declaration, usage, row}
use Rattle.shader.specs.Demand.{declared, is_texel, texels}
use Rattle.shader.proofs.Names.Truth.{and_fst, and_snd, both, inl}

-- what the check is made against: an order in which names are declared, the row count, the lookups, and which names may be declared
pub record Aim : Type 0 where
  pub rank : Name → ℕ
  pub rows : ℕ
  pub total : ℕ
  pub may : Name → Bool

-- what is known at a place: names that have been declared, a rank above all of theirs, and the lookups so far
pub record Known : Type 0 where
  pub has : Name → Bool
  pub next : ℕ
  pub seen : ℕ

abbrev pub add : Name → (Name → Bool) → Name → Bool
add m has n = same_name n m || has n

-- what is known behind a declaration
abbrev pub declaring : Aim → Name → Known → Known
declaring A m K = record { has = add m K.has; next = suc (A.rank m); seen = cond (is_texel m) (suc K.seen) K.seen }

-- what a declaration needs: a rank above those before it, and that the name may be declared
abbrev pub Free : Aim → Known → Name → Type 0
Free A K m = (K.next ≤ A.rank m) × T (A.may m)

-- A use needs its name declared, a declaration its name free, a row its place in the row count.
abbrev pub Holds : Aim → Known → List Occurrence → Type 0
Holds A K [] = K.seen ≡ A.total
Holds A K (declaration m ∷ l) = Free A K m × Holds A (declaring A m K) l
Holds A K (usage m ∷ l) = T (K.has m) × Holds A K l
Holds A K (row k ∷ l) = (k < A.rows) × Holds A K l

abbrev pub nothing : Known
nothing = record { has = λ n. false; next = 0; seen = 0 }

pub same→eq : (m n : Name) → T (same_name m n) → m ≡ n
same→eq (name k i) (name m j) t =
    let p : k ≡ m = eqb→eq k m (and_fst (eqb k m) (eqb i j) t) in
    let q : i ≡ j = eqb→eq i j (and_snd (eqb k m) (eqb i j) t) in
    cc

pub add_self : (n : Name) (has : Name → Bool) → T (add n has n)
add_self (name k i) has = inl (eqb k k && eqb i i) _ (both (eqb k k) (eqb i i) (eqb_refl k) (eqb_refl i))

-- what is known is so, of the declarations that were counted
record Sound (A : Aim) (count : Name → ℕ) (K : Known) : Type 0 where
  ones : (n : Name) → T (K.has n) → count n ≡ 1
  nones : (n : Name) → K.next ≤ A.rank n → count n ≡ 0
  most : (n : Name) → count n ≤ 1

-- behind the occurrences a
record Reached (A : Aim) (K : Known) (count : Name → ℕ) (a l : List Occurrence) : Type 0 where
  known : Known
  holds : Holds A known l
  ones : (n : Name) → T (known.has n) → declared n a + count n ≡ 1
  most : (n : Name) → declared n a + count n ≤ 1
  seen : known.seen ≡ K.seen + texels a

module _ (A : Aim) where
  declare_sound : (K : Known) (count : Name → ℕ) (m : Name) → K.next ≤ A.rank m → Sound A count K
      → Sound A (λ n. cond (same_name n m) 1 0 + count n) (declaring A m K)
  declare_sound K count m p t =
      record {
        ones = λ n h. ones' n (same_name n m) (same→eq n m) h;
        nones = λ n h. nones' n (same_name n m) (same→eq n m) h;
        most = λ n. most' n (same_name n m) (same→eq n m);
      }
    where
      fresh : (n : Name) → n ≡ m → count n ≡ 0
      fresh n e = t.nones n (subst (λ (x : Name). K.next ≤ A.rank x) (sym e) p)

      ones' : (n : Name) (b : Bool) → (T b → n ≡ m) → T (b || K.has n) → cond b 1 0 + count n ≡ 1
      ones' n true e h = omega (arith, fresh n (e tt))
      ones' n false e h = omega (arith, t.ones n h)

      nones' : (n : Name) (b : Bool) → (T b → n ≡ m) → suc (A.rank m) ≤ A.rank n → cond b 1 0 + count n ≡ 0
      nones' n true e h = let z : A.rank n ≡ A.rank m = ap A.rank (e tt) in omega arith
      nones' n false e h = let z : count n ≡ 0 = t.nones n (omega arith) in omega arith

      most' : (n : Name) (b : Bool) → (T b → n ≡ m) → cond b 1 0 + count n ≤ 1
      most' n true e = omega (arith, fresh n (e tt))
      most' n false e = omega (arith, t.most n)

  reach : (a l : List Occurrence) (K : Known) (count : Name → ℕ) → Sound A count K → Holds A K (a ++ l) → Reached A K count a l
  reach [] l K count t h =
      record {
        known = K;
        holds = h;
        ones = λ n x. omega (arith, t.ones n x);
        most = λ n. omega (arith, t.most n);
        seen = omega arith;
      }
  reach (declaration m ∷ a) l K count t h =
      let g = reach a l (declaring A m K) _ (declare_sound K count m h.0.0 t) h.1 in
      record {
        known = g.known;
        holds = g.holds;
        ones = λ n x. omega (arith, g.ones n x);
        most = λ n. omega (arith, g.most n);
        seen = tally (is_texel m) g.known.seen K.seen (texels a) g.seen;
      }
    where
      tally : (b : Bool) (x y z : ℕ) → x ≡ cond b (suc y) y + z → x ≡ y + (cond b 1 0 + z)
      tally true x y z e = omega arith
      tally false x y z e = omega arith
  reach (usage m ∷ a) l K count t h =
      let g = reach a l K count t h.1 in record { known = g.known; holds = g.holds; ones = g.ones; most = g.most; seen = g.seen }
  reach (row k ∷ a) l K count t h =
      let g = reach a l K count t h.1 in record { known = g.known; holds = g.holds; ones = g.ones; most = g.most; seen = g.seen }

-- The check is enough.
module _ (A : Aim) (l : List Occurrence) (h : Holds A nothing l) where
  reached : (a c : List Occurrence) → l ≡ a ++ c → Reached A nothing (λ n. 0) a c
  reached a c e =
      let sound : Sound A (λ n. 0) nothing = record { ones = λ n t. absurd t; nones = λ n p. refl; most = λ n. omega arith } in
      reach A a c nothing (λ n. 0) sound (subst (Holds A nothing) e h)

  pub checked_before : (n : Name) (a c : List Occurrence) → l ≡ a ++ (usage n ∷ c) → declared n a ≡ 1
  checked_before n a c e = let g = reached a (usage n ∷ c) e in omega (arith, g.ones n g.holds.0)

  pub checked_once : (n : Name) → declared n l ≤ 1
  checked_once n = omega (arith, (reached l [] (sym (append-nil l))).most n)

  pub checked_rows : (k : ℕ) (a c : List Occurrence) → l ≡ a ++ (row k ∷ c) → k < A.rows
  checked_rows k a c e = (reached a (row k ∷ c) e).holds.0

  pub checked_lookups : texels l ≡ A.total
  checked_lookups = let g = reached l [] (sym (append-nil l)) in omega (arith, g.seen, g.holds)

  pub checked_may : (n : Name) (a c : List Occurrence) → l ≡ a ++ (declaration n ∷ c) → T (A.may n)
  checked_may n a c e = (reached a (declaration n ∷ c) e).holds.0.1
