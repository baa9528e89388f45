-- No text is longer than its kind's greatest length, and an entry of n bytes adds n - 1 to the text with an entry of one byte.
use Prim.Native.Nat.{ℕ, suc, ◌+◌, ◌-◌, ◌*◌, ◌≤◌, ◌<◌, max}
use mathlib.Core.Bool.{Bool, true, false, cond}
use mathlib.Core.Path.{◌≡◌, refl, subst}
use mathlib.Core.List.{List, [], ◌∷◌, map}
use native.Mathlib.Omega.{arith}
use native.Mathlib.Nat.{le_trans}
use lib.Dec.{T, eqb, leb, leb→le, lit≤}
use lib.ListN.{length, length-take}
use Rattle.std.specs.Prelude.{None}
use Rattle.text.specs.Text.{size, flat, decimal_of, decimal}
use Rattle.text.proofs.Laws.{flat-length}
use Rattle.text.proofs.Size.{most, size_most}
use Rattle.combiners.specs.Codes.{disable, pre_modulate, dot_product3}
use Rattle.combiners.specs.Combiners.{three_operands}
use Rattle.cascade.specs.Keys.{active}
use Rattle.cascade.specs.Effective.{narrow_op, narrow_stage, effective_stages, active_stages, effective}
use Rattle.cascade.specs.Reading.{live, reads_bump_env}
use Rattle.cascade.proofs.Narrowing.{effective-length}
use Rattle.shader.specs.Output.{sample_mask, point_sprite, lod_bias, fogged, tested, srgb_write, specular_text, fog_depth_text, fog_factor_text, fog_text, comparison_text, test_text, srgb_text, return_text, output_text}
use Rattle.shader.specs.Whole.{varyings_text, srgb_helper_text, fragment_text, front_text, stage_in_text, samplers_text, parameters_text, sprite_line, sprite_text, locals_text, body_text, whole_text}
use Rattle.shader.specs.Results.{text_of}
use Rattle.shader.proofs.Names.Truth.{and_fst, and_snd, cond_cases, below_at}
use Rattle.shader.proofs.Names.Rules.{active_short}
use Rattle.values.specs.Entries.{name_of, is_identifier, entry_good}
use Rattle.values.specs.declared.Stage.{Stage}
use Rattle.values.specs.declared.Key.{Key}
use Rattle.values.specs.declared.Variant.{Variant}
use Rattle.values.specs.declared.Entry.{Entry}
use Rattle.lengths.specs.Bounds.{greatest_length, Typed, Permitted}
use Rattle.lengths.proofs.Sums.{flag, cond_le}
use Rattle.lengths.proofs.Expressions.{budget}
use Rattle.lengths.proofs.Lookups.{added, gain}
use Rattle.lengths.proofs.Stages.{AllWithin, weight, stages_le}

-- ---------------------------------------------------------------- all but the stages

front_le : (v : Variant) → most (front_text v) ≤ 943
unfolding front_text varyings_text srgb_helper_text fragment_text
front_le v = lit≤ tt

parameters_le : (v : Variant) (ss : List Stage)
    → size (parameters_text v ss) ≤ 261 + (cond (reads_bump_env (live ss) ss) 46 0 + size (samplers_text v 0 ss))
unfolding parameters_text stage_in_text
parameters_le v ss =
    omega (
      arith,
      cond_le (point_sprite v) 78 32 78 (lit≤ tt) (lit≤ tt),
      cond_le (tested v) 46 0 46 (lit≤ tt) (lit≤ tt),
      cond_le (fogged v) 46 0 46 (lit≤ tt) (lit≤ tt),
      cond_le (lod_bias v) 46 0 46 (lit≤ tt) (lit≤ tt),
    )

sprite_le : (b : Bool) → most (sprite_text b) ≤ 564
unfolding sprite_text sprite_line
sprite_le b = lit≤ tt

-- TEMP is declared in 31 bytes, 7 of which its readers are short of
locals_le : (alive : Bool) → size (locals_text alive) ≤ 56 + 7 * flag alive
unfolding locals_text flag
locals_le true = omega arith
locals_le false = omega arith

-- a sample mask in d digits
return_le : (v : Variant) (d : ℕ) → size (decimal v.sample_mask) ≤ d → size (return_text v) ≤ 33 + d
unfolding return_text
return_le v d h = cond_cases (sample_mask v) _ _ (λ (n : ℕ). n ≤ 33 + d) (λ t. omega arith) (λ t. omega arith)

specular_le : (b : Bool) → most (specular_text b) ≤ 72
unfolding specular_text
specular_le b = lit≤ tt

fog_le : (v : Variant) → most (fog_text v) ≤ 282
unfolding fog_text fog_depth_text fog_factor_text
fog_le v = lit≤ tt

test_le : (v : Variant) → most (test_text v) ≤ 51
unfolding test_text comparison_text
test_le v = lit≤ tt

srgb_le : (b : Bool) → most (srgb_text b) ≤ 46
unfolding srgb_text
srgb_le b = lit≤ tt

output_le : (b : Bool) (v : Variant) (d : ℕ) → size (decimal v.sample_mask) ≤ d → size (output_text b v) ≤ 510 + d
unfolding output_text
output_le b v d h =
    omega (
      arith,
      le_trans (size_most (specular_text b)) (specular_le b),
      le_trans (size_most (fog_text v)) (fog_le v),
      le_trans (size_most (test_text v)) (test_le v),
      le_trans (size_most (srgb_text (srgb_write v))) (srgb_le (srgb_write v)),
      return_le v d h,
    )

-- ---------------------------------------------------------------- the whole

-- the row of bump stages has 46 bytes, of which some are spared
env_le : (b : Bool) (spare : ℕ) → spare ≤ 46 → cond b 46 0 ≤ 46 - spare + cond b spare 0
env_le true spare h = omega arith
env_le false spare h = omega arith

module _ (k : Key) (v : Variant) (e : Entry) (d : ℕ) (digits : size (decimal v.sample_mask) ≤ d) where
  abbrev ss : List Stage
  ss = active k.stages

  rest_le : (spare : ℕ) → spare ≤ 46
      → size (whole_text k v e) ≤ 2380 - spare + d + length (name_of e) + weight spare v k.projected (live ss) None 0 ss
  unfolding whole_text body_text weight
  rest_le spare h =
      omega (
        arith,
        le_trans (size_most (front_text v)) (front_le v),
        parameters_le v ss,
        env_le (reads_bump_env (live ss) ss) spare h,
        le_trans (size_most (sprite_text (point_sprite v))) (sprite_le (point_sprite v)),
        locals_le (live ss),
        output_le k.specular_add v d digits,
      )

  -- stages that are within these lengths, and the most that they take
  whole_le : (colour alpha spare : ℕ) (bound : ℕ → ℕ) → spare ≤ 46 → AllWithin colour alpha ss → length k.stages ≤ 8
      → ((i : ℕ) → i ≤ 6 → 275 + (27 + colour + alpha) + bound (suc i) ≤ bound i)
      → ((i : ℕ) → i ≤ 6 → 275 + spare + added i + bound (suc i) ≤ bound i)
      → ((b : Bool) (i : ℕ) → 275 + cond b spare (27 + colour + alpha) ≤ bound i)
      → length (flat (whole_text k v e)) ≤ 2380 - spare + d + length (name_of e) + bound 0
  unfolding gain
  whole_le colour alpha spare bound low within eight line-fits bump-fits last_Fits =
      omega (
        arith,
        flat-length (whole_text k v e),
        rest_le spare low,
        stages_le colour alpha spare v k.projected (live ss) bound line-fits bump-fits last_Fits None tt 0 ss within
            (omega (arith, active_short k.stages)),
      )

-- ---------------------------------------------------------------- kind 1

-- a bump stage takes more than the longest line: the most are seven bump stages and a line
narrow_most : ℕ → ℕ
narrow_most i = 505 + 512 * (7 - i) + 6 * (7 - max i 5)

narrow_line : (i : ℕ) → i ≤ 6 → 275 + (27 + 100 + 103) + narrow_most (suc i) ≤ narrow_most i
unfolding narrow_most
narrow_line i h = leb→le _ _ (below_at (λ i. leb (275 + (27 + 100 + 103) + narrow_most (suc i)) (narrow_most i)) 7 i tt (omega arith))

narrow_bump : (i : ℕ) → i ≤ 6 → 275 + 0 + added i + narrow_most (suc i) ≤ narrow_most i
unfolding narrow_most
narrow_bump i h = leb→le _ _ (below_at (λ i. leb (275 + 0 + added i + narrow_most (suc i)) (narrow_most i)) 7 i tt (omega arith))

narrow_last : (b : Bool) (i : ℕ) → 275 + cond b 0 (27 + 100 + 103) ≤ narrow_most i
unfolding narrow_most
narrow_last true i = omega arith
narrow_last false i = omega arith

narrow_budget : (o : ℕ) → (budget (narrow_op o) ≤ 100 + 3 * flag (eqb (narrow_op o) dot_product3)) × (budget (narrow_op o) ≤ 103)
unfolding flag
narrow_budget o = go (three_operands o) refl
  where
    plain : (d : Bool) → (cond d 103 100 ≤ 100 + 3 * flag d) × (cond d 103 100 ≤ 103)
    plain true = (lit≤ tt, lit≤ tt)
    plain false = (lit≤ tt, lit≤ tt)

    go : (b : Bool) → three_operands o ≡ b
        → (budget (cond b pre_modulate o) ≤ 100 + 3 * flag (eqb (cond b pre_modulate o) dot_product3)) × (budget (cond b pre_modulate o) ≤ 103)
    go true e = (lit≤ tt, lit≤ tt)
    go false e = rw e (plain (eqb o dot_product3))

narrow_within : (l : List Stage) → AllWithin 100 103 (active (map narrow_stage l))
unfolding active
narrow_within [] = tt
narrow_within (s ∷ r) =
    cond_cases (eqb (narrow_op s.colour.op) disable) _ _ (AllWithin 100 103) (λ t. tt)
    (λ t. (record { first = (narrow_budget s.colour.op).0; second = (narrow_budget s.alpha.op).1 }, narrow_within r))

-- ---------------------------------------------------------------- kind 6

-- a line takes more than any bump stage, but one bump stage is worth its row: 14 bytes are spared of that
wide_most : ℕ → ℕ
wide_most i = 532 + 532 * (7 - i)

wide_line_lem : (i : ℕ) → i ≤ 6 → 275 + (27 + 115 + 115) + wide_most (suc i) ≤ wide_most i
unfolding wide_most
wide_line_lem i h = omega arith

wide_bump : (i : ℕ) → i ≤ 6 → 275 + 14 + added i + wide_most (suc i) ≤ wide_most i
unfolding wide_most
wide_bump i h = omega arith

wide_last : (b : Bool) (i : ℕ) → 275 + cond b 14 (27 + 115 + 115) ≤ wide_most i
unfolding wide_most
wide_last true i = omega arith
wide_last false i = omega arith

budget_le : (o : ℕ) → budget o ≤ 115
budget_le o = cond_le (three_operands o) _ _ 115 (lit≤ tt) (cond_le (eqb o dot_product3) 103 100 115 (lit≤ tt) (lit≤ tt))

wide_within : (l : List Stage) → AllWithin 115 115 l
wide_within [] = tt
wide_within (s ∷ r) = (record { first = omega (arith, budget_le s.colour.op); second = budget_le s.alpha.op }, wide_within r)

-- ---------------------------------------------------------------- the theorems

-- one test over the bytes that a sample mask can be
mask_le : (n : ℕ) → n < 256 → size (decimal n) ≤ 3
unfolding decimal_of
mask_le n h = leb→le _ _ (below_at (λ n. leb (size (decimal n)) 3) 256 n tt h)

-- a sample mask that is no byte has twenty digits at most
number_most : (n : ℕ) → most (decimal n) ≤ 20
unfolding decimal_of
number_most n = lit≤ tt

-- stages taken as they are, whatever their ops
stages_at_most : (k : Key) (v : Variant) (e : Entry) (d : ℕ) → size (decimal v.sample_mask) ≤ d → length k.stages ≤ 8
    → length (flat (whole_text k v e)) ≤ 6622 + d + length (name_of e)
unfolding wide_most
stages_at_most k v e d digits eight =
    omega (arith, whole_le k v e d digits 115 115 14 wide_most (lit≤ tt) (wide_within (active k.stages)) eight wide_line_lem wide_bump wide_last)

pub whole_at_most : (k : Key) (v : Variant) (e : Entry) → v.sample_mask < 256 → length k.stages ≤ 8
    → length (flat (whole_text k v e)) ≤ greatest_length true (length (name_of e))
whole_at_most k v e mask eight = stages_at_most k v e 3 (mask_le v.sample_mask mask) eight

module _ (k : Key) (v : Variant) (e : Entry) where
  effective_short : length k.stages ≤ 8 → length (effective_stages k) ≤ 8
  effective_short h = omega (arith, effective-length k)

  -- whatever number the sample mask is
  pub any_at_most : length k.stages ≤ 8 → length (text_of k v e) ≤ 6642 + length (name_of e)
  any_at_most h =
      let mask = v.sample_mask in
      stages_at_most (effective k) v e 20 (le_trans (size_most (decimal mask)) (number_most mask)) (effective_short h)

  module _ (typed : Typed k v) where
    stages_short : length (effective_stages k) ≤ 8
    stages_short = effective_short (omega (arith, typed.stages))

    narrow_le : k.wide ≡ false → length (text_of k v e) ≤ greatest_length false (length (name_of e))
    unfolding effective_stages narrow_most
    narrow_le w =
        let within : AllWithin 100 103 (active_stages k) = rw w (narrow_within k.stages) in
        let digits = mask_le v.sample_mask typed.mask in
        omega (arith, whole_le (effective k) v e 3 digits 100 103 0 narrow_most (lit≤ tt) within stages_short narrow_line narrow_bump narrow_last)

    kind_le : (w : Bool) → k.wide ≡ w → length (text_of k v e) ≤ greatest_length w (length (name_of e))
    kind_le true h = whole_at_most (effective k) v e typed.mask stages_short
    kind_le false h = narrow_le h

-- the name of a permitted entry has as many bytes as its length says, one at least
pub name-length : (e : Entry) → Permitted e → length (name_of e) ≡ e.len
unfolding entry_good
name-length e p = simp length-take (omega (arith, p.bytes, leb→le e.len 32 (and_fst (leb e.len 32) _ p.good)))

identifier_some : (w : List ℕ) → T (is_identifier w) → 1 ≤ length w
identifier_some [] t = absurd t
identifier_some (c ∷ r) t = omega arith

name_some : (e : Entry) → Permitted e → 1 ≤ e.len
unfolding entry_good
name_some e p =
    let identifier = and_fst (is_identifier (name_of e)) _ (and_snd (leb e.len 32) _ p.good) in
    omega (arith, name-length e p, identifier_some (name_of e) identifier)

-- No text is longer.
pub at_most_greatest : (k : Key) (v : Variant) (e : Entry) → Typed k v → Permitted e → length (text_of k v e) ≤ greatest_length k.wide e.len
at_most_greatest k v e t p = subst (λ (n : ℕ). length (text_of k v e) ≤ greatest_length k.wide n) (name-length e p) (kind_le k v e t k.wide refl)

-- An entry of n bytes adds n - 1 to the text with an entry of one byte.
pub entry_adds : (k : Key) (v : Variant) (e one : Entry) → Permitted e → Permitted one → one.len ≡ 1
    → length (text_of k v e) ≡ length (text_of k v one) + (e.len - 1)
unfolding whole_text
entry_adds k v e one p q h =
    omega (
      arith,
      flat-length (whole_text (effective k) v e),
      flat-length (whole_text (effective k) v one),
      name-length e p,
      name-length one q,
      name_some e p,
    )
