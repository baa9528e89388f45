-- A name that is declared once, and before each use, is used behind its declaration if it is used at all.
use Prim.Native.Nat.{ℕ, suc, ◌+◌, ◌≤◌}
use mathlib.Core.Path.{◌≡◌, ap, sym, ◌∙◌, subst}
use mathlib.Core.List.{List, [], ◌∷◌, ◌++◌, append_assoc}
use mathlib.Core.Bool.{Bool, true, false, ◌||◌}
use native.Mathlib.Omega.{arith}
use lib.Dec.{T, eqb, eqb_refl}
use Rattle.values.specs.Listed.{Name, name}
use Rattle.shader.specs.Names.{same_name, Occurrence, declaration, usage, row}
use Rattle.shader.specs.Demand.{declared}
use Rattle.shader.specs.Idle.{used}
use Rattle.shader.proofs.Names.Truth.{true_of, both, inl, inr, either}
use Rattle.shader.proofs.Names.Check.{same→eq}

same_self : (n : Name) → same_name n n ≡ true
same_self (name k i) = true_of _ (both (eqb k k) (eqb i i) (eqb_refl k) (eqb_refl i))

pub used_first : (n : Name) (l : List Occurrence) → T (used n (usage n ∷ l))
used_first n l = inl (same_name n n) _ (rw (same_self n) tt)

-- a use, and what stands before it
pub used_right : (n : Name) (a l : List Occurrence) → T (used n l) → T (used n (a ++ l))
used_right n [] l h = h
used_right n (declaration m ∷ a) l h = used_right n a l h
used_right n (usage m ∷ a) l h = inr (same_name n m) _ (used_right n a l h)
used_right n (row k ∷ a) l h = used_right n a l h

used_either : (n : Name) (a l : List Occurrence) → T (used n (a ++ l)) → T (used n a || used n l)
used_either n [] l h = h
used_either n (declaration m ∷ a) l h = used_either n a l h
used_either n (usage m ∷ a) l h = go (same_name n m) (used_either n a l) h
  where
    go : (b : Bool) → (T (used n (a ++ l)) → T (used n a || used n l)) → T (b || used n (a ++ l)) → T ((b || used n a) || used n l)
    go true f t = tt
    go false f t = f t
used_either n (row k ∷ a) l h = used_either n a l h

-- where a name is used
record Place (n : Name) (l : List Occurrence) : Type 0 where
  front : List Occurrence
  back : List Occurrence
  is : l ≡ front ++ (usage n ∷ back)

later : (n : Name) (o : Occurrence) (l : List Occurrence) → Place n l → Place n (o ∷ l)
later n o l p = record { front = o ∷ p.front; back = p.back; is = ap (λ (x : List Occurrence). o ∷ x) p.is }

place : (n : Name) (l : List Occurrence) → T (used n l) → Place n l
place n [] h = absurd h
place n (declaration m ∷ l) h = later n (declaration m) l (place n l h)
place n (usage m ∷ l) h =
    let rest = place n l in
    either (same_name n m) (used n l) (λ t. record { front = []; back = l; is = ap (λ (x : Name). usage x ∷ l) (sym (same→eq n m t)) })
    (λ t. later n (usage m) l (rest t)) h
place n (row k ∷ l) h = later n (row k) l (place n l h)

declared-append : (n : Name) (a l : List Occurrence) → declared n (a ++ l) ≡ declared n a + declared n l
declared-append n [] l = omega arith
declared-append n (declaration m ∷ a) l = let h = declared-append n a l in omega arith
declared-append n (usage m ∷ a) l = declared-append n a l
declared-append n (row k ∷ a) l = declared-append n a l

declared_here : (n : Name) (l : List Occurrence) → declared n (declaration n ∷ l) ≡ suc (declared n l)
declared_here n l = rw (same_self n) (omega arith)

pub used_behind : (n : Name) (l : List Occurrence) → ((a c : List Occurrence) → l ≡ a ++ (usage n ∷ c) → declared n a ≡ 1) → declared n l ≤ 1
    → T (used n l) → (a c : List Occurrence) → l ≡ a ++ (declaration n ∷ c) → T (used n c)
used_behind n l before once h a c e =
    either (used n a) (used n c)
    (λ t.
    let p = place n a t in
    let rest : List Occurrence = p.back ++ (declaration n ∷ c) in
    let here : l ≡ p.front ++ (usage n ∷ rest) =
    e ∙ ap (λ (x : List Occurrence). x ++ (declaration n ∷ c)) p.is ∙ append_assoc p.front (usage n ∷ p.back) (declaration n ∷ c) in
    let earlier : declared n p.front ≡ 1 = before p.front rest here in
    let all : declared n l ≡ declared n p.front + declared n rest = ap (declared n) here ∙ declared-append n p.front (usage n ∷ rest) in
    let again : declared n rest ≡ declared n p.back + suc (declared n c) =
    declared-append n p.back (declaration n ∷ c) ∙ ap (λ (x : ℕ). declared n p.back + x) (declared_here n c) in
    absurd (omega (arith, earlier, all, again, once)))
    (λ t. t) (used_either n a (declaration n ∷ c) (subst (λ (x : List Occurrence). T (used n x)) e h))
