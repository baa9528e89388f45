-- After every front of a body the state tells whether some body that begins so is an entry's (`possible_exactly`); after a whole body, whether that
-- one is (`whole_body`).
use Rattle.std.proofs.Common.{◌≡◌, ℕ, zero, suc, ◌+◌, ◌-◌, ◌%◌, ◌<◌, ◌≤◌, Bool, true, false, cond, not, ◌&&◌, ◌||◌, eqb, leb, List, [], ◌∷◌, ◌++◌}
use Rattle.std.proofs.Common.{length, get_or, take, drop, sym, refl, ap, ◌∙◌, append_assoc, mod-eq_of_lt, add-one, arith, length-append}
use Rattle.std.proofs.Common.{length-take-le, ne_eqb, le-leb, leb-true}
use Prim.Native.Char.{code}
use mathlib.Core.Logic.{by_cases}
use native.Mathlib.Decide.{dec_le}
use borrow.Author.Tests.{lt-leb}
use lib.Seq.{split_at}
use Rattle.values.specs.Entries.{all, starts_name, continues_name, entry_good}
use Rattle.values.specs.declared.Entry.{Entry}
use Rattle.admission.specs.Pass.{right, started, pass_stepped, possible_in, passed_over, possible_after, body_of, Possible}
use Rattle.admission.specs.declared.entry.Pass.{Pass}

-- one test where b holds, another where it does not
pub chosen : (b x y : Bool) → ((b && x) || (not b && y)) ≡ cond b x y
chosen true true y = refl
chosen true false y = refl
chosen false x y = refl

-- each of these bytes is right, the first of them number i
abbrev pub right_from : ℕ → ℕ → List ℕ → Bool
right_from i len [] = true
right_from i len (c ∷ r) = right i len c && right_from (suc i) len r

-- a byte that was wrong stays wrong
kept_wrong : (a b : Bool) (w : ℕ) → cond b (cond a w 1) 1 ≡ cond (a && b) w 1
kept_wrong true b w = refl
kept_wrong false true w = refl
kept_wrong false false w = refl

-- the state behind the bytes of a name and those behind it
module _ (len : ℕ) where
  abbrev pub state : ℕ → ℕ → Pass
  state i w = record { taken = i; length = len; wrong = w }

  pub step_on : (i w c : ℕ) → 1 ≤ i → i < 255 → pass_stepped (state i w) c ≡ state (suc i) (cond (right i len c) w 1)
  unfolding pass_stepped
  step_on i w c h k =
      let e : (i + 1) % 256 ≡ suc i = mod-eq_of_lt (omega arith) ∙ add-one i in
      let f : eqb i 0 ≡ false = ne_eqb i 0 (λ z. omega arith) in
      rw (e, f)

  steps_on : (i w : ℕ) (l : List ℕ) → 1 ≤ i → i + length l ≤ 255 → passed_over (state i w) l ≡ state (i + length l) (cond (right_from i len l) w 1)
  unfolding passed_over
  steps_on i w [] h k = ap (λ (n : ℕ). state n w) (omega arith)
  steps_on i w (c ∷ r) h k =
      ap (λ (p : Pass). passed_over p r) (step_on i w c h (omega arith))
      ∙ steps_on (suc i) (cond (right i len c) w 1) r (omega arith) (omega arith)
      ∙ ap (λ (n : ℕ). state n (cond (right_from (suc i) len r) (cond (right i len c) w 1) 1)) (omega arith)
      ∙ ap (state (i + suc (length r))) (kept_wrong (right i len c) (right_from (suc i) len r) w)

-- the state behind the front len ∷ l of a body
front_state : (len : ℕ) (l : List ℕ) → length l ≤ 254 → possible_after (len ∷ l) ≡ ((leb 1 len && leb len 32) && right_from 1 len l)
unfolding passed_over pass_stepped right
front_state len l h =
    ap possible_in (steps_on len 1 (cond (leb 1 len && leb len 32) 0 1) l (omega arith) (omega arith))
    ∙ decided (leb 1 len && leb len 32) (right_from 1 len l)
  where
    decided : (a b : Bool) → eqb (cond b (cond a 0 1) 1) 0 ≡ (a && b)
    decided true true = refl
    decided true false = refl
    decided false true = refl
    decided false false = refl

-- the first n bytes may stand in a name, and those behind them are 0
abbrev placed : ℕ → List ℕ → Bool
placed n [] = true
placed zero (c ∷ r) = eqb c 0 && placed zero r
placed (suc n) (c ∷ r) = continues_name c && placed n r

pub and_assoc : (a b c : Bool) → (a && (b && c)) ≡ ((a && b) && c)
and_assoc true b c = refl
and_assoc false b c = refl

placed_zeros : (l : List ℕ) → placed 0 l ≡ all (λ c. eqb c 0) l
unfolding all
placed_zeros [] = refl
placed_zeros (c ∷ r) = rw (placed_zeros r)

placed_parts : (n : ℕ) (l : List ℕ) → placed n l ≡ (all continues_name (take n l) && all (λ c. eqb c 0) (drop n l))
unfolding all
placed_parts zero l = placed_zeros l
placed_parts (suc n) [] = refl
placed_parts (suc n) (c ∷ r) = rw (placed_parts n r) (and_assoc (continues_name c) (all continues_name (take n r)) (all (λ c. eqb c 0) (drop n r)))

-- behind the first byte of a name the places are those of `placed`
right_placed : (len i : ℕ) (l : List ℕ) → 2 ≤ i → i + length l ≤ 33 → right_from i len l ≡ placed (suc len - i) l
unfolding right
right_placed len i [] h k = refl
right_placed len i (c ∷ r) h k =
    let z : eqb i 0 ≡ false = ne_eqb i 0 (λ e. omega arith) in
    let o : eqb i 1 ≡ false = ne_eqb i 1 (λ e. omega arith) in
    let s = right_placed len (suc i) r (omega arith) (omega arith) in
    rw (z, o, s) (by_cases (dec_le i len) inside behind)
  where
    inside : i ≤ len → (cond (leb i len) (continues_name c) (leb i 32 && eqb c 0) && placed (suc len - suc i) r) ≡ placed (suc len - i) (c ∷ r)
    inside g = let e : suc len - i ≡ suc (suc len - suc i) = omega arith in rw (le-leb i len g, e)

    behind : (i ≤ len → ⊥) → (cond (leb i len) (continues_name c) (leb i 32 && eqb c 0) && placed (suc len - suc i) r) ≡ placed (suc len - i) (c ∷ r)
    behind g =
        let e : suc len - i ≡ 0 = omega (arith, g) in
        let f : suc len - suc i ≡ 0 = omega (arith, g) in
        let b : len < i = omega (arith, g) in
        let m : i ≤ 32 = omega arith in
        rw (lt-leb i len b, le-leb i 32 m, e, f)

-- for a whole body the pass answers as 01 does
pub bytes_good : (len : ℕ) (l : List ℕ) → length l ≡ 32 → ((leb 1 len && leb len 32) && right_from 1 len l) ≡ entry_good (record { len = len; name = l })
unfolding entry_good right
bytes_good zero l h = refl
bytes_good (suc n) [] h = absurd (omega arith)
bytes_good (suc n) (c ∷ r) h =
    let e = right_placed (suc n) 2 r (omega arith) (omega arith) in
    let d : suc (suc n) - 2 ≡ n = omega arith in
    let o : leb 1 (suc n) ≡ true = le-leb 1 (suc n) (omega arith) in
    rw (e, d, o, placed_parts n r) (regroup (leb (suc n) 32) (starts_name c) (all continues_name (take n r)) (all (λ c. eqb c 0) (drop n r)))
  where
    regroup : (a b x y : Bool) → (a && (b && (x && y))) ≡ (a && ((b && x) && y))
    regroup a b x y = ap (λ (z : Bool). a && z) (and_assoc b x y)

pub whole_body : (e : Entry) → length e.name ≡ 32 → possible_after (body_of e) ≡ entry_good e
whole_body e h = front_state e.len e.name (omega arith) ∙ bytes_good e.len e.name h

-- more bytes behind a front: each must be right where it stands
right_from-append : (len i : ℕ) (a b : List ℕ) → right_from i len (a ++ b) ≡ (right_from i len a && right_from (i + length a) len b)
right_from-append len i [] b = ap (λ (n : ℕ). right_from n len b) (omega arith)
right_from-append len i (c ∷ a) b =
    ap (λ (t : Bool). right i len c && t) (right_from-append len (suc i) a b)
    ∙ and_assoc (right i len c) (right_from (suc i) len a) (right_from (suc i + length a) len b)
    ∙ ap (λ (n : ℕ). (right i len c && right_from (suc i) len a) && right_from n len b) (omega arith)

-- n bytes that complete a body from byte number i on: the rest of the name in letters, then zeros
abbrev filling : ℕ → ℕ → ℕ → List ℕ
filling len i zero = []
filling len i (suc n) = cond (leb i len) (code "a") 0 ∷ filling len (suc i) n

filling-length : (len i n : ℕ) → length (filling len i n) ≡ n
filling-length len i zero = refl
filling-length len i (suc n) = ap suc (filling-length len (suc i) n)

filling_right : (len i n : ℕ) → 1 ≤ len → 1 ≤ i → i + n ≤ 33 → right_from i len (filling len i n) ≡ true
unfolding right
filling_right len i zero h j k = refl
filling_right len i (suc n) h j k =
    let z : eqb i 0 ≡ false = ne_eqb i 0 (λ e. omega arith) in
    let m : leb i 32 ≡ true = le-leb i 32 (omega arith) in
    let s = filling_right len (suc i) n h (omega arith) (omega arith) in
    rw (z, m, s) (by_cases (dec_le i len) (λ g. rw (le-leb i len g) (letter (eqb i 1))) (λ g. behind (omega (arith, g))))
  where
    letter : (b : Bool) → (cond b (starts_name (code "a")) (continues_name (code "a")) && true) ≡ true
    letter true = refl
    letter false = refl

    c : ℕ
    c = cond (leb i len) (code "a") 0

    behind : len < i → (cond (eqb i 1) (starts_name c) (cond (leb i len) (continues_name c) (true && eqb c 0)) && true) ≡ true
    behind g =
        let o : eqb i 1 ≡ false = ne_eqb i 1 (λ e. omega arith) in
        rw (o, lt-leb i len g)

and-true : (a b : Bool) → (a && b) ≡ true → (a ≡ true) × (b ≡ true)
and-true true b e = (refl, e)
and-true false b e = absurd (let z : ◌≡◌ {A = ℕ} 0 1 = cc in omega arith)

-- a front that the state calls possible is completed
completed : (len : ℕ) (l : List ℕ) → length l ≤ 32 → possible_after (len ∷ l) ≡ true → Possible (len ∷ l)
completed len l h p =
    let n = 32 - length l in
    let i = 1 + length l in
    let q = and-true (leb 1 len && leb len 32) (right_from 1 len l) (sym (front_state len l (omega arith)) ∙ p) in
    let w : length (l ++ filling len i n) ≡ 32 = simp length-append (omega (arith, filling-length len i n)) in
    let f = filling_right len i n (leb-true 1 len (and-true (leb 1 len) (leb len 32) q.0).0) (omega arith) (omega arith) in
    record {
      entry = record { len = len; name = l ++ filling len i n };
      whole = w;
      rest = filling len i n;
      begins = refl;
      good = sym (bytes_good len (l ++ filling len i n) w) ∙ rw (q.0, right_from-append len 1 l (filling len i n), q.1, f);
    }

possible_completed : (front : List ℕ) → length front ≤ 33 → possible_after front ≡ true → Possible front
unfolding entry_good all
possible_completed [] h p = record { entry = e; whole = filling-length 1 1 32; rest = body_of e; begins = refl; good = refl }
  where
    e : Entry
    e = record { len = 1; name = filling 1 1 32 }
possible_completed (len ∷ l) h p = completed len l (omega arith) p

-- a wrong byte stays wrong, so a front of what is possible is possible
still : (p : Pass) (l : List ℕ) → possible_in (passed_over p l) ≡ true → possible_in p ≡ true
unfolding passed_over pass_stepped
still p [] h = h
still p (c ∷ r) h = before (right p.taken p.length c) (still (pass_stepped p c) r h)
  where
    before : (b : Bool) → eqb (cond b p.wrong 1) 0 ≡ true → eqb p.wrong 0 ≡ true
    before true e = e
    before false e = absurd (let z : ◌≡◌ {A = ℕ} 0 1 = cc in omega arith)

passed_over-append : (p : Pass) (a b : List ℕ) → passed_over p (a ++ b) ≡ passed_over (passed_over p a) b
unfolding passed_over
passed_over-append p [] b = refl
passed_over-append p (c ∷ a) b = passed_over-append (pass_stepped p c) a b

possible_begun : (front : List ℕ) → Possible front → possible_after front ≡ true
possible_begun front k =
    let all = ap (passed_over started) k.begins ∙ passed_over-append started front k.rest in
    still (passed_over started front) k.rest (sym (ap possible_in all) ∙ whole_body k.entry k.whole ∙ k.good)

-- 02: "After every front of a body, the empty and the whole one too, the state must tell whether some body that begins so is free of cause 6"
pub possible_exactly : (front : List ℕ) → length front ≤ 33 → (possible_after front ≡ true → Possible front) × (Possible front → possible_after front ≡ true)
possible_exactly front h = (possible_completed front h, possible_begun front)

-- no body has a byte behind number 32
no_byte : (len c : ℕ) (l : List ℕ) → length l ≡ 32 → possible_after (len ∷ (l ++ (c ∷ []))) ≡ true → ⊥
unfolding right
no_byte len c l h p =
    let s : length (l ++ (c ∷ [])) ≤ 254 = simp length-append (omega arith) in
    let q = and-true (leb 1 len && leb len 32) _ (sym (front_state len (l ++ (c ∷ [])) s) ∙ p) in
    let m = leb-true len 32 (and-true (leb 1 len) (leb len 32) q.0).1 in
    let r = (and-true (right_from 1 len l) _ (sym (right_from-append len 1 l (c ∷ [])) ∙ q.1)).1 in
    let b : leb 33 len ≡ false = lt-leb 33 len (omega arith) in
    let z : false ≡ true = rw (h, b) at r in
    let o : ◌≡◌ {A = ℕ} 0 1 = cc in
    omega arith

pub impossible_behind : (front : List ℕ) → 33 < length front → possible_after front ≡ true → ⊥
impossible_behind [] h p = omega arith
impossible_behind (len ∷ l) h p =
    let e : l ≡ (take 32 l ++ (get_or l 32 0 ∷ [])) ++ drop 33 l =
    split_at l 32 0 (omega arith) ∙ sym (append_assoc (take 32 l) (get_or l 32 0 ∷ []) (drop 33 l)) in
    let front = len ∷ (take 32 l ++ (get_or l 32 0 ∷ [])) in
    let a = ap (λ (m : List ℕ). passed_over started (len ∷ m)) e ∙ passed_over-append started front (drop 33 l) in
    no_byte len (get_or l 32 0) (take 32 l) (length-take-le 32 l (omega arith)) (still (passed_over started front) (drop 33 l) (sym (ap possible_in a) ∙ p))
