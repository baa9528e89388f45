-- The walks from the last active stage to the first: what one stage more in front adds, and that masks and numbers stay within a byte.
use Prim.Native.Nat.{ℕ, suc, ◌+◌, ◌*◌, ◌^◌, ◌<◌, ◌≤◌}
use mathlib.Core.Bool.{Bool, true, false, ◌&&◌, ◌||◌, not, cond}
use mathlib.Core.Path.{◌≡◌, refl, sym, ◌∙◌}
use mathlib.Core.List.{List, [], ◌∷◌, reverse}
use native.Mathlib.Omega.{arith}
use native.Mathlib.Nat.{pow-succ', pow-le-pow_right}
use lib.Dec.{eqb}
use lib.ListN.{length, take, length-append}
use lib.Seq.{length-take-le}
use Rattle.std.specs.Iterator.{FoldsItems}
use Rattle.std.specs.Iterator.Adapters.{rev_source, rev_steps}
use Rattle.std.specs.Slice.Iter.{iter_rest, iter_steps_back}
use Rattle.std.proofs.lemmas.Fn.{fold_over}
use Rattle.std.proofs.lemmas.Iterator.Adapters.{YieldsList-from_rev_slice}
use Rattle.std.proofs.lemmas.List.{reverse-append, reverse-reverse, length-reverse}
use Rattle.std.proofs.lemmas.Bool.Decides.{nat_tests}
use denote.Param.Members.{Mut, Called}
use denote.Ref.{Bor}
use Rattle.combiners.specs.Warnings.{Cause, op_cause, selector_cause, modifier_cause}
use Rattle.cascade.specs.Keys.{textured, active, active_count, bump, stages_where, reads_constant, names_factor, last_constant, any_factor, rows_of}
use Rattle.cascade.specs.Reading.{live, lined, marked, reads_texel, reads_bump_env}
use Rattle.cascade.specs.Warnings.{warned_stages}
use Rattle.cascade.specs.Survey.{marks_of, survey_of}
use Rattle.cascade.specs.Walks.{warns, mask_with, rows_by, facts_of, add_fact, marked_by, marks_from, add_mark}
use Rattle.values.specs.declared.Stage.{Stage}
use Rattle.cascade.specs.declared.walks.Facts.{Facts}
use Rattle.cascade.specs.declared.walks.Marks.{Marks}
use Rattle.cascade.proofs.Active.{active-take, count_le}
use Rattle.cascade.proofs.Reports.{warned}

choice : (b x y : Bool) → cond b x y ≡ (b && x) || (not b && y)
choice true true y = refl
choice true false y = refl
choice false x y = refl

marked_by_lem : (alive : Bool) (s : Stage) (r : List Stage) → marked alive (s ∷ r) ≡ marked_by alive s (marked alive r)
unfolding marked
marked_by_lem alive s r = choice (bump s) (textured s && marked alive r) (lined alive s && reads_texel s)

-- a mask of n stages is below 2 ^ n
bit_small : (b : Bool) (m n : ℕ) → m < 2 ^ n → cond b 1 0 + 2 * m < 2 ^ suc n
bit_small true m n h = rw (pow-succ' 2 n) (omega arith)
bit_small false m n h = rw (pow-succ' 2 n) (omega arith)

mask_small : (f : Stage → Bool) (ss : List Stage) → stages_where f ss < 2 ^ length ss
unfolding stages_where
mask_small f [] = omega arith
mask_small f (s ∷ r) = bit_small (f s) (stages_where f r) (length r) (mask_small f r)

marks_small : (alive : Bool) (ss : List Stage) → marks_of alive ss < 2 ^ length ss
unfolding marks_of
marks_small alive [] = omega arith
marks_small alive (s ∷ r) = bit_small (marked alive (s ∷ r)) (marks_of alive r) (length r) (marks_small alive r)

-- the mask of at most seven stages has room for one more in front
room : (b : Bool) (m n : ℕ) → m < 2 ^ n → n < 8 → mask_with b m ≡ cond b 1 0 + 2 * m
room b m n h l = let q : 2 ^ n ≤ 2 ^ 7 = pow-le-pow_right (omega arith) {i = n} {j = 7} (omega arith) in go b (omega arith)
  where
    go : (b : Bool) → m < 128 → mask_with b m ≡ cond b 1 0 + 2 * m
    go true k = omega arith
    go false k = omega arith

-- the last constant: its number with one stage more in front, and its bounds
shift_step : (b : Bool) (i n m : ℕ) → m ≡ cond (eqb n 0) 0 (suc n)
    → cond (eqb m 0) (cond b (suc i + 2) 0) m ≡ cond (eqb (cond (eqb n 0) (cond b (i + 2) 0) n) 0) 0 (suc (cond (eqb n 0) (cond b (i + 2) 0) n))
shift_step b i n m h = grind (arith, nat_tests)

constant_shift : (i : ℕ) (ss : List Stage) → last_constant (suc i) ss ≡ cond (eqb (last_constant i ss) 0) 0 (suc (last_constant i ss))
unfolding last_constant
constant_shift i [] = refl
constant_shift i (s ∷ r) = shift_step (reads_constant s) i (last_constant (suc i) r) (last_constant (suc (suc i)) r) (constant_shift (suc i) r)

range_step : (b : Bool) (i n k : ℕ) → (0 < n → 2 ≤ n) → n ≤ suc i + k + 1
    → (0 < cond (eqb n 0) (cond b (i + 2) 0) n → 2 ≤ cond (eqb n 0) (cond b (i + 2) 0) n) × (cond (eqb n 0) (cond b (i + 2) 0) n ≤ i + suc k + 1)
range_step b i n k h l = (λ p. grind (arith, nat_tests), grind (arith, nat_tests))

constant_range : (i : ℕ) (ss : List Stage) → (0 < last_constant i ss → 2 ≤ last_constant i ss) × (last_constant i ss ≤ i + length ss + 1)
unfolding last_constant
constant_range i [] = (λ p. absurd (omega arith), omega arith)
constant_range i (s ∷ r) = let h = constant_range (suc i) r in range_step (reads_constant s) i (last_constant (suc i) r) (length r) h.0 h.1

-- the rows, with one stage more in front
rows_step : (b c f : Bool) (n m : ℕ) → m ≡ cond (eqb n 0) 0 (suc n) → (0 < n → 2 ≤ n) → n < 255
    → rows_by b c (cond (eqb n 0) (cond f 1 0) n)
    ≡ cond (eqb (cond (eqb m 0) (cond b 2 0) m) 0) (cond (c || f) 1 0) (cond (eqb m 0) (cond b 2 0) m)
rows_step b c f n m h l k = grind (arith, nat_tests)

rows_cons : (s : Stage) (r : List Stage) → length r < 8 → rows_by (reads_constant s) (names_factor s) (rows_of r) ≡ rows_of (s ∷ r)
unfolding rows_of last_constant any_factor
rows_cons s r h =
    let c = constant_range 0 r in
    rows_step (reads_constant s) (names_factor s) (any_factor r) (last_constant 0 r) (last_constant 1 r) (constant_shift 0 r) c.0 (omega (arith, c.1))

pub facts_cons : (s : Stage) (r : List Stage) → length r < 8 → add_fact s (facts_of r) ≡ facts_of (s ∷ r)
unfolding facts_of stages_where live
facts_cons s r h =
    let free = λ (f : Stage → Bool). room (f s) (stages_where f r) (length r) (mask_small f r) h in
    rw (free textured, free (warns op_cause), free (warns selector_cause), free (warns modifier_cause), rows_cons s r h)

pub marks_cons : (alive : Bool) (s : Stage) (r : List Stage) → length r < 8 → add_mark alive s (marks_from alive r) ≡ marks_from alive (s ∷ r)
unfolding marks_from marks_of reads_bump_env
marks_cons alive s r h = rw (marked_by_lem alive s r, room (marked_by alive s (marked alive r)) _ (length r) (marks_small alive r) h)

-- a fold over the stages from the last to the first answers P of them, where one stage more in front makes P of more stages
pub walked : {F A : Type 0} (P : List Stage → A) (add : Stage → A → A) → ((s : Stage) (r : List Stage) → length r < 8 → add s (P r) ≡ P (s ∷ r))
    → (g : Mut F (A × (Bor Stage × Unit {0})) A) (f : F)
    → ((a : A) (x : Bor Stage) (b : A) (f' : F) → Called g f (a, (x, tt)) b f' → (b ≡ add x.now a) × (f' ≡ f)) → (s : _) (ss : List Stage)
    → iter_rest (rev_source s) ≡ ss → length ss ≤ 8 → (a r : A) → a ≡ P [] → FoldsItems (rev_steps iter_steps_back) g s f a r → r ≡ P ss
walked P add cons g f calls s ss e few a r start ran =
    rw (reverse-reverse ss) at
    (fold_over (rev_steps iter_steps_back) (λ y. y.now) g (λ ys b. length ys ≤ 8 → b ≡ P (reverse ys)) f
    (λ ys a x b f' j k. let h = calls a x b f' k in (
      (λ few. let k : length ys < 8 = omega (arith, length-append ys (x.now ∷ []), few) in
          h.0 ∙ rw (j (omega arith), reverse-append) (cons x.now (reverse ys) (rw length-reverse k))),
      h.1,
    ))
    s (reverse ss) a r (YieldsList-from_rev_slice ss e).runs (λ _. start) ran (rw length-reverse few))

-- everything together
pub surveyed : (l : List Stage) (n : ℕ) (f : Facts) (m : Marks) → length l ≡ 8 → n ≡ active_count l → f ≡ facts_of (take n l)
    → m ≡ marks_from f.live (take n l)
    → record { count = n; mask = f.mask; rows = f.rows; warnings = f.warnings; live = f.live; marks = m.marks; bump_env = m.bump_env } ≡ survey_of l
unfolding facts_of marks_from survey_of
surveyed l n f m e hn hf hm =
    let few : length (active l) ≤ 8 = rw (active-take l, length-take-le (active_count l) l (count_le l)) (omega (arith, count_le l, e)) in
    let w : (c : Cause) → warned_stages c (active l) ≡ stages_where (warns c) (active l) = λ c. warned c (active l) few in
    let a : take n l ≡ active l = rw hn (sym (active-take l)) in
    rw (rw a at hm, rw a at hf, hn, w op_cause, w selector_cause, w modifier_cause)
