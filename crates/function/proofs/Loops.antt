-- The loop over the active stages: what is still to be written, written, makes the whole.
use Prim.Native.Nat.{ℕ, zero, suc, ◌+◌, ◌*◌, ◌/◌, ◌%◌, ◌^◌, ◌<◌, ◌≤◌}
use mathlib.Core.Bool.{Bool, true, false, cond}
use mathlib.Core.Path.{◌≡◌, sym, ◌∙◌}
use mathlib.Core.List.{List, [], ◌∷◌}
use native.Mathlib.Omega.{arith}
use native.Mathlib.Nat.{pow-succ', div-div-eq-div-mul}
use native.Mathlib.Numerals.{add-one}
use lib.ListN.{length, drop, get_or, drop_of_length-le}
use lib.Seq.{drop-cons}
use Rattle.std.specs.Prelude.{Option, None, Some}
use Rattle.text.specs.Text.{when}
use Rattle.text.specs.Buffer.{Wrote}
use Rattle.text.proofs.Laws.{◌⨾◌, nothing, joining}
use Rattle.combiners.specs.Codes.{bit}
use Rattle.cascade.specs.Keys.{active}
use Rattle.cascade.specs.Stages.{decode}
use Rattle.cascade.specs.Reading.{live, marked, lookups_of}
use Rattle.cascade.specs.Survey.{marks_of, survey_of}
use Rattle.cascade.specs.declared.Expressions.{Expressions}
use Rattle.values.specs.declared.Stage.{Stage}
use Rattle.cascade.specs.declared.Survey.{Survey}
use Rattle.shader.specs.Lookups.{lookup_of, before_of, sample_text}
use Rattle.shader.specs.Output.{lod_bias}
use Rattle.shader.specs.Whole.{stage_line, stages_text}
use Rattle.values.specs.declared.Variant.{Variant}
use Rattle.shader.specs.declared.BumpStage.{BumpStage}

-- bit i of the marks is that of stage i
mark_first : (alive : Bool) (s : Stage) (r : List Stage) → bit (marks_of alive (s ∷ r)) 0 ≡ marked alive (s ∷ r)
unfolding marks_of
mark_first alive s r = go (marked alive (s ∷ r)) (marks_of alive r)
  where
    go : (b : Bool) (m : ℕ) → bit (cond b 1 0 + 2 * m) 0 ≡ b
    go true m = let e : (1 + 2 * m) / 1 % 2 ≡ 1 = omega arith in rw e
    go false m = let e : (0 + 2 * m) / 1 % 2 ≡ 0 = omega arith in rw e

mark_rest : (alive : Bool) (s : Stage) (r : List Stage) → marks_of alive (s ∷ r) / 2 ≡ marks_of alive r
unfolding marks_of
mark_rest alive s r = go (marked alive (s ∷ r)) (marks_of alive r)
  where
    go : (b : Bool) (m : ℕ) → (cond b 1 0 + 2 * m) / 2 ≡ m
    go true m = omega arith
    go false m = omega arith

mark_bit : (alive : Bool) (l : List Stage) (i : ℕ) → i < length l → bit (marks_of alive l) i ≡ marked alive (drop i l)
mark_bit alive [] i h = absurd (omega arith)
mark_bit alive (s ∷ r) zero h = mark_first alive s r
mark_bit alive (s ∷ r) (suc i) h =
    rw (pow-succ' 2 i, ← div-div-eq-div-mul (marks_of alive (s ∷ r)) 2 (2 ^ i), mark_rest alive s r) (mark_bit alive r i (omega arith))

counts : (alive : Bool) (s : Stage) (r : List Stage) (n : ℕ)
    → cond (marked alive (s ∷ r)) (suc n) n + lookups_of alive r ≡ n + lookups_of alive (s ∷ r)
unfolding lookups_of
counts alive s r n = go (marked alive (s ∷ r)) (lookups_of alive r)
  where
    go : (b : Bool) (m : ℕ) → cond b (suc n) n + m ≡ n + cond b (suc m) m
    go true m = omega arith
    go false m = omega arith

fewer : (b : Bool) (n i : ℕ) → n ≤ i → cond b (suc n) n ≤ i + 1
fewer true n i h = omega arith
fewer false n i h = omega arith

module _ (v : Variant) (projected : ℕ) (alive : Bool) (l : List Stage) (out₀ : List ℕ) (at : ℕ) where
  -- The stages from number i on are still to be written into out at p, behind the stage before; n lookups have been written.
  pub record AtStage (out : List ℕ) (p : ℕ) (before : Option BumpStage) (i n : ℕ) : Type 0 where
    pub rest : (out' : List ℕ) (p' : ℕ) → Wrote out p out' p' (stages_text v projected alive before i (drop i l))
        → Wrote out₀ at out' p' (stages_text v projected alive None 0 l)
    pub counted : n + lookups_of alive (drop i l) ≡ lookups_of alive l
    pub few : n ≤ i

  pub stages_turn : {out out₁ out₂ : List ℕ} {p p₁ p₂ n n₁ : ℕ} {before : Option BumpStage} {b : Bool} (i : ℕ) (d : Stage) → i < length l
      → b ≡ marked alive (drop i l) → AtStage out p before i n
      → Wrote out p out₁ p₁ (when b (sample_text before (lookup_of v i) (lod_bias v) (bit projected i) i))
      → Wrote out₁ p₁ out₂ p₂ (stage_line alive i (get_or l i d) (decode (get_or l i d)))
      → n₁ ≡ cond b (suc n) n → AtStage out₂ p₂ (before_of i (get_or l i d)) (i + 1) n₁
  unfolding stages_text
  stages_turn {n = n} {n₁} {b = b} i d h mark inv w₁ w₂ e =
      let s = get_or l i d in
      let r = drop (suc i) l in
      let c = drop-cons l i d h in
      let own : b ≡ marked alive (s ∷ r) = rw c at mark in
      record {
        rest = λ o p x. inv.rest o p (rw (c, ← own) (w₁ ⨾ w₂ ⨾ rw add-one at x));
        counted = rw (e, own, add-one) (counts alive s r n ∙ rw c at inv.counted);
        few = rw e (fewer b n i inv.few);
      }

  pub stages_end : {out : List ℕ} {p n : ℕ} {before : Option BumpStage} (i : ℕ) → length l ≤ i → AtStage out p before i n
      → Wrote out₀ at out p (stages_text v projected alive None 0 l) × (n ≡ lookups_of alive l)
  unfolding stages_text lookups_of
  stages_end {out} {p} i h inv =
      let c = drop_of_length-le l h in
      (inv.rest out p (rw c (nothing out p)), omega (arith, rw c at inv.counted))

-- what a survey says of a stage's mark and of TEMP
pub survey_marked : (l stages : List Stage) (u : Survey) → u ≡ survey_of l → stages ≡ active l → (i : ℕ) → i < length stages
    → bit u.marks i ≡ marked u.live (drop i stages)
unfolding survey_of
survey_marked l stages u e f i h = rw (e, f) (mark_bit (live (active l)) (active l) i (rw f at h))

pub survey_live : (l : List Stage) (u : Survey) → u ≡ survey_of l → u.live ≡ live (active l)
unfolding survey_of
survey_live l u e = rw e

-- what `grind` is handed at the seven parts of the text
pub ruleset parts = (joining, survey_live)

-- the line of a decoded stage: none of a bump stage
pub no_line : {out : List ℕ} {p : ℕ} (alive : Bool) (i : ℕ) (s : Stage) {d : Option Expressions} → d ≡ decode s → d ≡ None
    → Wrote out p out p (stage_line alive i s (decode s))
unfolding stage_line
no_line {out = out} {p = p} alive i s e f = rw (sym e ∙ f) (nothing out p)

pub a_line : {out out' : List ℕ} {p p' : ℕ} (alive : Bool) (i : ℕ) (s : Stage) {d : Option Expressions} {x : Expressions} → d ≡ decode s → d ≡ Some x
    → Wrote out p out' p' (stage_line alive i s (Some x)) → Wrote out p out' p' (stage_line alive i s (decode s))
a_line alive i s e f w = rw (sym e ∙ f) w
