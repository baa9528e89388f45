-- The stages together. A stage with a line takes at most 275 bytes for its parameters and its lookup, and the line; a bump stage takes 275, and makes
-- the next stage's lookup longer. Reading TEMP, which the text declares for it, makes a line 7 bytes short.
use Prim.Native.Nat.{ℕ, suc, ◌+◌, ◌*◌, ◌≤◌, ◌<◌}
use mathlib.Core.Bool.{Bool, true, false, not, ◌&&◌, ◌||◌, cond}
use mathlib.Core.Path.{◌≡◌, refl}
use mathlib.Core.List.{List, [], ◌∷◌}
use native.Mathlib.Omega.{arith}
use native.Mathlib.Nat.{le_trans}
use lib.ListN.{length}
use Rattle.std.specs.Prelude.{Option, Some, None}
use Rattle.text.specs.Text.{size}
use Rattle.text.proofs.Size.{size_most}
use Rattle.combiners.specs.Codes.{bit}
use Rattle.cascade.specs.Keys.{textured, to_temp, bump}
use Rattle.cascade.specs.Reading.{reads_temp, reads_texel, live, lined, marked, luminance, reads_bump_env}
use Rattle.cascade.specs.Stages.{expression_of, alpha_of, decode, line_text}
use Rattle.shader.specs.Lookups.{lookup_of, before_of, sample_text}
use Rattle.shader.specs.Output.{lod_bias}
use Rattle.shader.specs.Whole.{texture_parameter, sampler_parameter, samplers_text, stage_line, stages_text}
use Rattle.shader.specs.declared.BumpStage.{BumpStage}
use Rattle.shader.proofs.Names.Truth.{cond_cases}
use Rattle.values.specs.declared.Stage.{Stage}
use Rattle.values.specs.declared.Variant.{Variant}
use Rattle.lengths.proofs.Sums.{flag, flag_le, or_le, either_le}
use Rattle.lengths.proofs.Expressions.{credit}
use Rattle.lengths.proofs.Lines.{Within, stage_line_lem}
use Rattle.lengths.proofs.Lookups.{added, gain, Earlier, sample_le, parameters_le, parameters_low}

-- the line of a stage, where it has one
abbrev line_size : ℕ → Stage → ℕ
line_size i s = size (line_text i (textured s) (to_temp s) (expression_of (textured s) s.colour) (alpha_of s))

line_size_lem : (alive : Bool) (i : ℕ) (s : Stage) → size (stage_line alive i s (decode s)) ≡ cond (not (bump s) && lined alive s) (line_size i s) 0
unfolding stage_line decode
line_size_lem alive i s = go (bump s)
  where
    go : (b : Bool) → size (stage_line alive i s (cond b None (Some (record { colour = expression_of (textured s) s.colour; alpha = alpha_of s }))))
        ≡ cond (not b && lined alive s) (line_size i s) 0
    go true = refl
    go false = refl

-- One stage by its tests, with its lookup of S bytes, its parameters of P and its line of L: a bump stage or not, textured, with a line, reading its
-- texel, reading TEMP, the next stage marked.
step : (b tex ln texel temp next : Bool) (S P L g line : ℕ) → P + S ≤ 275 + g → P ≤ 76 → 9 ≤ P → L + credit tex texel temp ≤ 9 + line
    → cond (cond b (tex && next) (ln && texel)) S 0 + cond (not b && ln) L 0 + cond tex P 0 + 7 * flag (not b && temp) ≤ 275 + g + cond b 0 line
unfolding flag
step true true ln texel temp true S P L g line h₁ h₂ h₃ h₄ = omega arith
step true true ln texel temp false S P L g line h₁ h₂ h₃ h₄ = omega arith
step true false ln texel temp next S P L g line h₁ h₂ h₃ h₄ = omega arith
step false true true true temp next S P L g line h₁ h₂ h₃ h₄ = omega arith
step false false true true temp next S P L g line h₁ h₂ h₃ h₄ = omega arith
step false true true false temp next S P L g line h₁ h₂ h₃ h₄ = omega arith
step false false true false temp next S P L g line h₁ h₂ h₃ h₄ = omega arith
step false true false texel temp next S P L g line h₁ h₂ h₃ h₄ = omega (arith, flag_le temp)
step false false false texel temp next S P L g line h₁ h₂ h₃ h₄ = omega (arith, flag_le temp)

-- a stage's lookup, line and parameters, its reading of TEMP and what it keeps back, in front of those of the stages behind it
stage_sum : (S L T P Q f x y z X Y u n b : ℕ) → S + L + P + 7 * f ≤ n + u → x ≤ f + y → X ≤ z + Y → u + z ≤ b
    → S + (L + T) + (P + Q) + 7 * x + X ≤ n + b + (T + Q + 7 * y + Y)
stage_sum S L T P Q f x y z X Y u n b h₁ h₂ h₃ h₄ = omega arith

line_sum : (x m c colour alpha : ℕ) → x ≤ m → m + c ≤ 36 + colour + alpha → x + c ≤ 9 + (27 + colour + alpha)
line_sum x m c colour alpha h k = omega arith

either_of : (b : Bool) (line spare : ℕ) → cond b 0 line + cond b spare 0 ≤ cond b spare line
either_of true line spare = omega arith
either_of false line spare = omega arith

-- The stages from i on: what they write and declare, 7 if they read TEMP, and spare if one of them is a bump stage that is read.
unfoldable pub weight : ℕ → Variant → ℕ → Bool → Option BumpStage → ℕ → List Stage → ℕ
weight spare v projected alive p i ss =
    size (stages_text v projected alive p i ss) + size (samplers_text v i ss) + 7 * flag (live ss) + cond (reads_bump_env alive ss) spare 0

none_le : (spare : ℕ) (v : Variant) (projected : ℕ) (alive : Bool) (p : Option BumpStage) (i : ℕ) → weight spare v projected alive p i [] ≡ 0
unfolding weight stages_text samplers_text live reads_bump_env flag
none_le spare v projected alive p i = omega arith

-- Stages whose expressions are within these lengths: 27 bytes and the two expressions are the longest line that reads the stage's texel.
module _ (colour alpha : ℕ) where
  abbrev line : ℕ
  line = 27 + colour + alpha

  abbrev pub AllWithin : List Stage → Type 0
  AllWithin [] = Unit {0}
  AllWithin (s ∷ r) = Within colour alpha s × AllWithin r

  module _ (spare : ℕ) (v : Variant) (projected : ℕ) (alive : Bool) where
    abbrev weight_from : Option BumpStage → ℕ → List Stage → ℕ
    weight_from = weight spare v projected alive

    module _ (p : Option BumpStage) (earlier : Earlier p) (i : ℕ) (s : Stage) (within : Within colour alpha s) (r : List Stage) where
      lookup_le : (size (texture_parameter v i) + size (sampler_parameter i)) + size (sample_text p (lookup_of v i) (lod_bias v) (bit projected i) i)
          ≤ 275 + gain p
      lookup_le = omega (arith, sample_le p earlier (lookup_of v i) (lod_bias v) (bit projected i) i, parameters_le v i)

      line_le : line_size i s + credit (textured s) (reads_texel s) (reads_temp s) ≤ 9 + line
      line_le =
          let text = line_text i (textured s) (to_temp s) (expression_of (textured s) s.colour) (alpha_of s) in
          line_sum _ _ _ colour alpha (size_most text) (stage_line_lem i s colour alpha within)

      stage_le : weight_from p i (s ∷ r) ≤ 275 + gain p + cond (bump s) spare line + weight_from (before_of i s) (suc i) r
      unfolding weight stages_text samplers_text live marked reads_bump_env
      stage_le =
          rw (line_size_lem alive i s)
          (stage_sum _ _ _ _ _ _ _ (flag (live r)) (cond (bump s) spare 0) _ (cond (reads_bump_env alive r) spare 0) _ _ (cond (bump s) spare line)
          (step (bump s) (textured s) (lined alive s) (reads_texel s) (reads_temp s) (marked alive r) _ _ (line_size i s) (gain p) line
          lookup_le (le_trans (omega arith) (parameters_le v i)) (parameters_low v i) line_le)
          (or_le (not (bump s) && reads_temp s) (live r))
          (either_le (bump s) (marked alive r && (textured s || luminance s)) (reads_bump_env alive r) spare)
          (either_of (bump s) line spare))

    -- the most that the stages from i on take, by what one takes and what it leaves for those behind it
    module _ (most : ℕ → ℕ) (line-fits : (i : ℕ) → i ≤ 6 → 275 + line + most (suc i) ≤ most i)
        (bump-fits : (i : ℕ) → i ≤ 6 → 275 + spare + added i + most (suc i) ≤ most i)
        (last_Fits : (b : Bool) (i : ℕ) → 275 + cond b spare line ≤ most i) where
      next_fits : (i : ℕ) (s : Stage) → i ≤ 6 → 275 + cond (bump s) spare line + gain (before_of i s) + most (suc i) ≤ most i
      unfolding before_of gain
      next_fits i s h = go (bump s)
        where
          go : (b : Bool)
              → 275 + cond b spare line + gain (cond b (Some (record { stage = i; textured = textured s; luminance = luminance s })) None)
              + most (suc i) ≤ most i
          go true = bump-fits i h
          go false = omega (arith, line-fits i h)

      earlier_next : (i : ℕ) (s : Stage) → i < 8 → Earlier (before_of i s)
      unfolding before_of
      earlier_next i s h = cond_cases (bump s) _ _ Earlier (λ t. h) (λ t. tt)

      pub stages_le : (p : Option BumpStage) → Earlier p → (i : ℕ) (ss : List Stage) → AllWithin ss → i + length ss ≤ 8
          → weight_from p i ss ≤ gain p + most i
      stages_le p e i [] w h = omega (arith, none_le spare v projected alive p i)
      stages_le p e i (s ∷ []) w h =
          omega (arith, stage_le p e i s w.0 [], none_le spare v projected alive (before_of i s) (suc i), last_Fits (bump s) i)
      stages_le p e i (s ∷ (t ∷ r)) w h =
          omega (
            arith,
            stage_le p e i s w.0 (t ∷ r),
            next_fits i s (omega arith),
            stages_le (before_of i s) (earlier_next i s (omega arith)) (suc i) (t ∷ r) w.1 (omega arith),
          )
