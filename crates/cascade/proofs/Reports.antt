-- The masks that are put together from the reports are those of the stages that warn, and a mask is 0 exactly where no stage warns of the cause.
use Prim.Native.Nat.{ℕ, zero, suc, ◌+◌, ◌*◌, ◌≤◌, ◌<◌}
use mathlib.Core.Bool.{Bool, true, false, not, ◌&&◌, ◌||◌, cond}
use mathlib.Core.Path.{◌≡◌, refl, sym, ap, ◌∙◌}
use mathlib.Core.List.{List, [], ◌∷◌, ◌++◌}
use native.Mathlib.Omega.{arith}
use borrow.Author.Tests.{ne_eqb, eq-eqb, eqb-true, eqb-false}
use lib.Dec.{eqb}
use lib.ListN.{length}
use Rattle.combiners.specs.Warnings.{Cause, op_cause, selector_cause, modifier_cause, cause_number, Report, unknown_selector, unknown_modifier, report_if, applied_reports, reported, mask_from}
use Rattle.combiners.specs.Combiners.{three_operands}
use Rattle.cascade.specs.Keys.{stages_where, third, some}
use Rattle.cascade.specs.Warnings.{applies_colour, applies_alpha, combiner_reports, stage_reports, reports_from, warned_stages}
use Rattle.cascade.specs.Walks.{gives, warns}
use Rattle.values.specs.declared.Combiner.{Combiner}
use Rattle.values.specs.declared.Stage.{Stage}
use Rattle.std.proofs.Math.Bool.{and-false, or-false, and-true, or_assoc, and_assoc, and-or_distrib_right}

-- Tests in other words.

in_some : (f : ℕ → Bool) (k : Combiner) (e : Bool)
    → ((f k.arg1 && e) || ((f k.arg2 && e) || (three_operands k.op && (f k.arg0 && e)))) ≡ (some f k && e)
in_some f k e =
    rw (← and_assoc (three_operands k.op) (f k.arg0) e, ← and-or_distrib_right (f k.arg2) (third f k) e)
    (sym (and-or_distrib_right (f k.arg1) (f k.arg2 || third f k) e))

alone : (same e : Bool) → ((same && e) || false) ≡ ((same && true) && e)
alone true e = or-false e
alone false e = refl

none : (same e : Bool) → false ≡ ((same && false) && e)
none true e = refl
none false e = refl

-- What is reported of stage j: a report counts for its own cause and stage alone.

joined : (c : Cause) (j : ℕ) (x y : List Report) → reported c j (x ++ y) ≡ (reported c j x || reported c j y)
unfolding reported
joined c j [] y = refl
joined c j (r ∷ x) y = rw (joined c j x y) (sym (or_assoc (eqb (cause_number c) (cause_number r.cause) && eqb j r.stage) _ _))

one : (c d : Cause) (j i : ℕ) (b : Bool) → reported c j (report_if b d i) ≡ ((eqb (cause_number c) (cause_number d) && b) && eqb j i)
unfolding reported
one c d j i true = alone (eqb (cause_number c) (cause_number d)) (eqb j i)
one c d j i false = none (eqb (cause_number c) (cause_number d)) (eqb j i)

if_three : (c : Cause) (j : ℕ) (b : Bool) (x y : List Report) → reported c j (cond b (x ++ y) []) ≡ (b && (reported c j x || reported c j y))
unfolding reported
if_three c j true x y = joined c j x y
if_three c j false x y = refl

applied : (c : Cause) (j i : ℕ) (k : Combiner) → reported c j (applied_reports i k.op k.arg1 k.arg2 k.arg0) ≡ (gives c k && eqb j i)
unfolding applied_reports
applied op_cause j i k = simp (joined, if_three, one, or-false, and-false)
applied selector_cause j i k = simp (joined, if_three, one, or-false) (in_some unknown_selector k (eqb j i))
applied modifier_cause j i k = simp (joined, if_three, one) (in_some unknown_modifier k (eqb j i))

where_applied : (c : Cause) (j i : ℕ) (k : Combiner) (b : Bool) → reported c j (combiner_reports b i k) ≡ ((b && gives c k) && eqb j i)
unfolding reported
where_applied c j i k true = applied c j i k
where_applied c j i k false = refl

of_stage : (c : Cause) (j i : ℕ) (s : Stage) → reported c j (stage_reports i s) ≡ (warns c s && eqb j i)
unfolding warns
of_stage c j i s =
    rw (
      joined c j (combiner_reports (applies_colour s) i s.colour) (combiner_reports (applies_alpha s) i s.alpha),
      where_applied c j i s.colour (applies_colour s),
      where_applied c j i s.alpha (applies_alpha s),
    )
    (sym (and-or_distrib_right (applies_colour s && gives c s.colour) (applies_alpha s && gives c s.alpha) (eqb j i)))

-- The stages before number i report nothing in the reports from i on.
earlier : (c : Cause) (j i : ℕ) (ss : List Stage) → j < i → reported c j (reports_from i ss) ≡ false
unfolding reported reports_from
earlier c j i [] h = refl
earlier c j i (s ∷ r) h =
    rw (
      joined c j (stage_reports i s) (reports_from (suc i) r),
      of_stage c j i s,
      ne_eqb j i (λ e. omega arith),
      and-false,
      earlier c j (suc i) r (omega arith),
    )

-- Masks.

mask_alike : (f g : ℕ → Bool) (i n : ℕ) → ((j : ℕ) → i ≤ j → f j ≡ g j) → mask_from f i n ≡ mask_from g i n
unfolding mask_from
mask_alike f g i zero h = refl
mask_alike f g i (suc n) h = rw (h i (omega arith), mask_alike f g (suc i) n (λ j l. h j (omega arith)))

mask_none : (f : ℕ → Bool) (i n : ℕ) → ((j : ℕ) → f j ≡ false) → mask_from f i n ≡ 0
unfolding mask_from
mask_none f i zero h = refl
mask_none f i (suc n) h = rw (h i, mask_none f (suc i) n h)

-- of the stages from number i on the first one's own reports decide its bit, and do not touch the others'
module _ (c : Cause) (i : ℕ) (s : Stage) (r : List Stage) where
  apart : (j : ℕ) → reported c j (stage_reports i s ++ reports_from (suc i) r) ≡ ((warns c s && eqb j i) || reported c j (reports_from (suc i) r))
  apart j = rw (joined c j (stage_reports i s) (reports_from (suc i) r), of_stage c j i s)

  own : reported c i (stage_reports i s ++ reports_from (suc i) r) ≡ warns c s
  own = apart i ∙ rw (eq-eqb i i refl, and-true, earlier c i (suc i) r (omega arith), or-false)

  others : (j : ℕ) → suc i ≤ j → reported c j (stage_reports i s ++ reports_from (suc i) r) ≡ reported c j (reports_from (suc i) r)
  others j h = apart j ∙ rw (ne_eqb j i (λ e. omega arith), and-false)

masks : (c : Cause) (i n : ℕ) (ss : List Stage) → length ss ≤ n → mask_from (λ j. reported c j (reports_from i ss)) i n ≡ stages_where (warns c) ss
unfolding reported reports_from mask_from stages_where
masks c i n [] h = mask_none _ i n (λ j. refl)
masks c i zero (s ∷ r) h = absurd (omega arith)
masks c i (suc n) (s ∷ r) h = rw (own c i s r, mask_alike _ _ (suc i) n (others c i s r), masks c (suc i) n r (omega arith))

pub warned : (c : Cause) (ss : List Stage) → length ss ≤ 8 → warned_stages c ss ≡ stages_where (warns c) ss
unfolding warned_stages
warned c ss h = masks c 0 8 ss h

-- Beside the number that was reported before: 1, 2 and 4 for the causes of which some stage warns, summed.
pub any_warns : Cause → List Stage → Bool
any_warns c [] = false
any_warns c (s ∷ r) = warns c s || any_warns c r

pub warning_sum : List Stage → ℕ
warning_sum ss = cond (any_warns op_cause ss) 1 0 + cond (any_warns selector_cause ss) 2 0 + cond (any_warns modifier_cause ss) 4 0

-- a mask is 0 exactly where that sum lacks its cause
empty_bit : (b : Bool) (m : ℕ) (rest : Bool) → eqb m 0 ≡ not rest → eqb (cond b 1 0 + 2 * m) 0 ≡ not (b || rest)
empty_bit true m rest h = ne_eqb (1 + 2 * m) 0 (λ e. omega arith)
empty_bit false m true h = ne_eqb (0 + 2 * m) 0 (λ e. eqb-false m 0 h (omega arith))
empty_bit false m false h = eq-eqb (0 + 2 * m) 0 (omega (arith, eqb-true m 0 h))

empty : (c : Cause) (ss : List Stage) → eqb (stages_where (warns c) ss) 0 ≡ not (any_warns c ss)
unfolding stages_where any_warns
empty c [] = refl
empty c (s ∷ r) = empty_bit (warns c s) (stages_where (warns c) r) (any_warns c r) (empty c r)

pub lacking : (c : Cause) (ss : List Stage) → length ss ≤ 8 → eqb (warned_stages c ss) 0 ≡ not (any_warns c ss)
lacking c ss h = ap (λ (m : ℕ). eqb m 0) (warned c ss h) ∙ empty c ss

unless : (b : Bool) (n : ℕ) → cond b n 0 ≡ cond (not b) 0 n
unless true n = refl
unless false n = refl

pub summed : (ss : List Stage) → length ss ≤ 8
    → warning_sum ss
    ≡ cond (eqb (warned_stages op_cause ss) 0) 0 1 + cond (eqb (warned_stages selector_cause ss) 0) 0 2 + cond (eqb (warned_stages modifier_cause ss) 0) 0 4
unfolding warning_sum
summed ss h =
    rw (
      lacking op_cause ss h,
      lacking selector_cause ss h,
      lacking modifier_cause ss h,
      unless (any_warns op_cause ss),
      unless (any_warns selector_cause ss),
      unless (any_warns modifier_cause ss),
    )
