-- The uses in the stages: of TEMP where it is live, of the bump environment where it is read, of the texel of a marked lookup.
use Prim.Native.Nat.{ℕ, suc, ◌<◌}
use mathlib.Core.Path.{◌≡◌, sym, subst}
use mathlib.Core.List.{List, [], ◌∷◌, ◌++◌}
use mathlib.Core.Bool.{Bool, true, false, not, ◌&&◌, ◌||◌, cond}
use lib.Dec.{T, eqb}
use Rattle.std.specs.Prelude.{Option, Some}
use Rattle.text.specs.Text.{flat}
use Rattle.combiners.specs.Codes.{bit, disable}
use Rattle.cascade.specs.Keys.{textured, to_temp, bump}
use Rattle.cascade.specs.Stages.{decode}
use Rattle.cascade.specs.Reading.{reads_temp, live, lined, marked, luminance, reads_bump_env}
use Rattle.values.specs.declared.Stage.{Stage}
use Rattle.values.specs.declared.Variant.{Variant}
use Rattle.values.specs.Listed.{Name}
use Rattle.shader.specs.Lookups.{lookup_of, before_of, sample_text}
use Rattle.shader.specs.Output.{lod_bias}
use Rattle.shader.specs.Whole.{stage_line, stages_text}
use Rattle.shader.specs.declared.BumpStage.{BumpStage}
use Rattle.shader.proofs.Names.Truth.{true_of, and_fst, and_snd, either, cond_cases}
use Rattle.shader.proofs.Names.Words.{the}
use Rattle.shader.proofs.Names.Arguments.{texel}
use Rattle.shader.proofs.Names.Rules.{marked_bound}
use Rattle.shader.proofs.Names.Mentions.{Mentions, mentions_left, mentions_right}
use Rattle.shader.proofs.Names.Coordinates.{sample_texel, sample_env}
use Rattle.shader.proofs.Names.Expressions.{line_temp, line_texel}

lined_alive : (alive : Bool) (s : Stage) → T alive → T (lined alive s)
unfolding lined
lined_alive true s t = go (to_temp s)
  where
    go : (b : Bool) → T (not (b && false))
    go true = tt
    go false = tt
lined_alive false s t = absurd t

before_bump : (i : ℕ) (s : Stage) → T (bump s) → before_of i s ≡ Some (record { stage = i; textured = textured s; luminance = luminance s })
unfolding before_of
before_bump i s t = rw (true_of (bump s) t)

module _ (v : Variant) (projected : ℕ) (alive : Bool) where
  abbrev S : Option BumpStage → ℕ → List ℕ
  S before i = flat (sample_text before (lookup_of v i) (lod_bias v) (bit projected i) i)

  abbrev L : ℕ → Stage → List ℕ
  L i s = flat (stage_line alive i s (decode s))

  abbrev R : Option BumpStage → ℕ → List Stage → List ℕ
  R before i ss = flat (stages_text v projected alive before i ss)

  -- what the lookup of the first stage uses, where it is marked
  first_mentions : {n : Name} (before : Option BumpStage) (i : ℕ) (ss : List Stage) → T (marked alive ss) → Mentions n (S before i)
      → Mentions n (R before i ss)
  unfolding stages_text marked
  first_mentions before i [] t m = absurd t
  first_mentions {n} before i (s ∷ r) t m =
      let e : marked alive (s ∷ r) ≡ true = true_of _ t in
      subst (λ (b : Bool). Mentions n (cond b (S before i) [] ++ (L i s ++ R (before_of i s) (suc i) r))) (sym e) (mentions_left _ m)

  -- what stands behind the first stage's lookup
  behind_mentions : {n : Name} (before : Option BumpStage) (i : ℕ) (s : Stage) (r : List Stage) → Mentions n (L i s ++ R (before_of i s) (suc i) r)
      → Mentions n (R before i (s ∷ r))
  unfolding stages_text
  behind_mentions before i s r m = mentions_right (cond (marked alive (s ∷ r)) (S before i) []) m

  rest_mentions : {n : Name} (before : Option BumpStage) (i : ℕ) (s : Stage) (r : List Stage) → Mentions n (R (before_of i s) (suc i) r)
      → Mentions n (R before i (s ∷ r))
  rest_mentions before i s r m = behind_mentions before i s r (mentions_right (L i s) m)

  pub stages_temp : T alive → (ss : List Stage) (before : Option BumpStage) (i : ℕ) → T (live ss) → Mentions (the "temp") (R before i ss)
  unfolding live
  stages_temp a [] before i t = absurd t
  stages_temp a (s ∷ r) before i t =
      let rest = stages_temp a r (before_of i s) (suc i) in
      either (not (bump s) && reads_temp s) (live r)
      (λ u. behind_mentions before i s r
      (mentions_left _ (line_temp alive i s (and_fst (not (bump s)) _ u) (lined_alive alive s a) (and_snd (not (bump s)) _ u))))
      (λ u. rest_mentions before i s r (rest u)) t

  -- behind a bump stage, where the next is marked: what its lookup uses at the displaced coordinate
  bumped : {n : Name} (i : ℕ) (s : Stage) (r : List Stage) → T (bump s) → T (marked alive r)
      → Mentions n (S (Some (record { stage = i; textured = textured s; luminance = luminance s })) (suc i)) → Mentions n (R (before_of i s) (suc i) r)
  bumped i s r b m x = rw (before_bump i s b) (first_mentions _ (suc i) r m x)

  pub stages_env : (ss : List Stage) (before : Option BumpStage) (i : ℕ) → T (reads_bump_env alive ss) → Mentions (the "bump_env") (R before i ss)
  unfolding reads_bump_env
  stages_env [] before i t = absurd t
  stages_env (s ∷ r) before i t =
      let rest = stages_env r (before_of i s) (suc i) in
      either (bump s && (marked alive r && (textured s || luminance s))) (reads_bump_env alive r)
      (λ u. let w = and_snd (bump s) _ u in
      rest_mentions before i s r (bumped i s r (and_fst (bump s) _ u) (and_fst (marked alive r) _ w)
      (sample_env i (lookup_of v (suc i)) (lod_bias v) (bit projected (suc i)) (suc i) (textured s) (luminance s) (and_snd (marked alive r) _ w))))
      (λ u. rest_mentions before i s r (rest u)) t

  texel_of : (i : ℕ) (s : Stage) (r : List Stage) → i < 8 → T (textured s) → T (marked alive (s ∷ r))
      → Mentions (texel i) (L i s ++ R (before_of i s) (suc i) r)
  unfolding marked
  texel_of i s r l x =
      cond_cases (bump s) _ _ (λ m. T m → Mentions (texel i) (L i s ++ R (before_of i s) (suc i) r))
      (λ b u. mentions_right (L i s) (bumped i s r b (and_snd (textured s) _ u)
      (sample_texel i (lookup_of v (suc i)) (lod_bias v) (bit projected (suc i)) (suc i) (textured s) (luminance s) l x)))
      (λ b u. mentions_left _ (line_texel alive i s b (and_fst (lined alive s) _ u) l x (and_snd (lined alive s) _ u)))

  -- the texel of a marked lookup is used in its stage's line, or by the next stage's lookup
  pub stages_texel : (i : ℕ) (s : Stage) (r : List Stage) → i < 8 → T (not (eqb s.colour.op disable)) → T (marked alive (s ∷ r))
      → Mentions (texel i) (L i s ++ R (before_of i s) (suc i) r)
  stages_texel i s r l n t = texel_of i s r l (marked_bound alive s r n t) t
