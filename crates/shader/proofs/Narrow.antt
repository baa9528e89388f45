-- The tie of the two kinds: a key of kind 1, or one of kind 6 without MULTIPLYADD and LERP, answers what its stages of seven bytes answer as a key of
-- kind 1. Argument 0 of any other op is read nowhere.
use Prim.Native.Nat.{ℕ, suc}
use mathlib.Core.Bool.{Bool, true, false, not, ◌||◌, cond}
use mathlib.Core.Path.{◌≡◌, refl, ap, ◌∙◌}
use mathlib.Core.List.{List, [], ◌∷◌, map}
use lib.Dec.{T, eqb}
use Rattle.std.specs.Prelude.{Option, Some, None}
use Rattle.combiners.specs.Codes.{disable}
use Rattle.combiners.specs.Combiners.{three_operands}
use Rattle.combiners.specs.Warnings.{Cause, op_cause, selector_cause, modifier_cause, applied_reports}
use Rattle.cascade.specs.Keys.{active, stages_where, reads, falls_back, bump, alpha_from_colour, mask_of, reads_constant, names_factor, last_constant, any_factor, rows_of}
use Rattle.cascade.specs.Effective.{narrow_stage, effective_stages, any_of_three, active_stages, effective}
use Rattle.cascade.specs.Stages.{expression_of, alpha_of, decode}
use Rattle.cascade.specs.Reading.{keeps, alpha_written, reads_temp, reads_texel, live, lined, marked, lookups_of, reads_bump_env}
use Rattle.cascade.specs.Warnings.{applies_colour, applies_alpha, reports_from, warned_stages}
use Rattle.cascade.proofs.Narrowing.{narrow_op_lem}
use Rattle.cascade.specs.declared.Expressions.{Expressions}
use Rattle.values.specs.Flags.{stage_flags_bad}
use Rattle.values.specs.Kinds.{seven_bytes, narrow}
use Rattle.values.specs.declared.Combiner.{Combiner}
use Rattle.values.specs.declared.Stage.{Stage}
use Rattle.values.specs.declared.Key.{Key}
use Rattle.values.specs.declared.Variant.{Variant}
use Rattle.values.specs.declared.Entry.{Entry}
use Rattle.shader.specs.Lookups.{before_of}
use Rattle.shader.specs.Whole.{samplers_text, parameters_text, stage_line, stages_text, body_text, whole_text}
use Rattle.shader.specs.Results.{text_of, emitted_of, answer_of}
use Rattle.shader.specs.declared.BumpStage.{BumpStage}
use Rattle.shader.proofs.Names.Truth.{false_of, neither_fst, neither_snd, cond_cases}

-- no op has an argument 0
abbrev OfTwo : Combiner → Type 0
OfTwo c = three_operands c.op ≡ false

abbrev AllOfTwo : List Stage → Type 0
AllOfTwo [] = Unit {0}
AllOfTwo (s ∷ r) = OfTwo s.colour × OfTwo s.alpha × AllOfTwo r

-- ---------------------------------------------------------------- stages

-- of a stage beside what it is decoded to a line has the flags alone
decoded_alike : (alive : Bool) (i : ℕ) (s : Stage) (d : Option Expressions) → stage_line alive i (seven_bytes s) d ≡ stage_line alive i s d
unfolding stage_line lined
decoded_alike alive i s (Some e) = refl
decoded_alike alive i s None = refl

module _ (s : Stage) (h : OfTwo s.colour) (g : OfTwo s.alpha) where
  bump_alike : bump (seven_bytes s) ≡ bump s
  unfolding bump falls_back reads
  bump_alike = rw h

  constant_alike : reads_constant (seven_bytes s) ≡ reads_constant s
  unfolding reads_constant alpha_from_colour falls_back reads
  constant_alike = rw (h, g)

  factor_alike : names_factor (seven_bytes s) ≡ names_factor s
  unfolding names_factor
  factor_alike = rw (h, g)

  temp_alike : reads_temp (seven_bytes s) ≡ reads_temp s
  unfolding reads_temp alpha_written alpha_from_colour falls_back reads keeps
  temp_alike = rw (h, g)

  texel_alike : reads_texel (seven_bytes s) ≡ reads_texel s
  unfolding reads_texel alpha_written alpha_from_colour falls_back reads keeps
  texel_alike = rw (h, g)

  before_alike : (i : ℕ) → before_of i (seven_bytes s) ≡ before_of i s
  unfolding before_of
  before_alike i = rw bump_alike

  decode_alike : decode (seven_bytes s) ≡ decode s
  unfolding decode bump expression_of alpha_of alpha_from_colour falls_back reads
  decode_alike = rw (h, g)

  line_alike : (alive : Bool) (i : ℕ) → stage_line alive i (seven_bytes s) (decode (seven_bytes s)) ≡ stage_line alive i s (decode s)
  line_alike alive i = rw decode_alike (decoded_alike alive i s (decode s))

-- ---------------------------------------------------------------- the cascade

flags_alike : (l : List Stage) → stage_flags_bad (map seven_bytes l) ≡ stage_flags_bad l
unfolding stage_flags_bad
flags_alike [] = refl
flags_alike (s ∷ r) = rw (flags_alike r)

active_alike : (l : List Stage) → active (map seven_bytes l) ≡ map seven_bytes (active l)
unfolding active
active_alike [] = refl
active_alike (s ∷ r) = rw (active_alike r) (go (eqb s.colour.op disable))
  where
    go : (b : Bool) → cond b [] (seven_bytes s ∷ map seven_bytes (active r)) ≡ map seven_bytes (cond b [] (s ∷ active r))
    go true = refl
    go false = refl

active_of_two : (l : List Stage) → AllOfTwo l → AllOfTwo (active l)
unfolding active
active_of_two [] h = tt
active_of_two (s ∷ r) h = cond_cases (eqb s.colour.op disable) _ _ AllOfTwo (λ t. tt) (λ t. (h.0, h.1, active_of_two r h.2))

mask_alike : (l : List Stage) → mask_of (map seven_bytes l) ≡ mask_of l
unfolding stages_where
mask_alike [] = refl
mask_alike (s ∷ r) = rw (mask_alike r)

samplers_alike : (v : Variant) (i : ℕ) (l : List Stage) → samplers_text v i (map seven_bytes l) ≡ samplers_text v i l
unfolding samplers_text
samplers_alike v i [] = refl
samplers_alike v i (s ∷ r) = rw (samplers_alike v (suc i) r)

last_alike : (i : ℕ) (l : List Stage) → AllOfTwo l → last_constant i (map seven_bytes l) ≡ last_constant i l
unfolding last_constant
last_alike i [] h = refl
last_alike i (s ∷ r) h = rw (last_alike (suc i) r h.2, constant_alike s h.0 h.1)

factors_alike : (l : List Stage) → AllOfTwo l → any_factor (map seven_bytes l) ≡ any_factor l
unfolding any_factor
factors_alike [] h = refl
factors_alike (s ∷ r) h = rw (factors_alike r h.2, factor_alike s h.0 h.1)

live_alike : (l : List Stage) → AllOfTwo l → live (map seven_bytes l) ≡ live l
unfolding live
live_alike [] h = refl
live_alike (s ∷ r) h = rw (live_alike r h.2, bump_alike s h.0 h.1, temp_alike s h.0 h.1)

module _ (alive : Bool) where
  marked_alike : (l : List Stage) → AllOfTwo l → marked alive (map seven_bytes l) ≡ marked alive l
  unfolding marked lined
  marked_alike [] h = refl
  marked_alike (s ∷ r) h = rw (marked_alike r h.2, bump_alike s h.0 h.1, texel_alike s h.0 h.1)

  lookups_alike : (l : List Stage) → AllOfTwo l → lookups_of alive (map seven_bytes l) ≡ lookups_of alive l
  unfolding lookups_of
  lookups_alike [] h = refl
  lookups_alike (s ∷ r) h = rw (lookups_alike r h.2, marked_alike (s ∷ r) h)

  env_alike : (l : List Stage) → AllOfTwo l → reads_bump_env alive (map seven_bytes l) ≡ reads_bump_env alive l
  unfolding reads_bump_env
  env_alike [] h = refl
  env_alike (s ∷ r) h = rw (env_alike r h.2, marked_alike r h.2, bump_alike s h.0 h.1)

  stages_alike : (v : Variant) (projected : ℕ) (before : Option BumpStage) (i : ℕ) (l : List Stage) → AllOfTwo l
      → stages_text v projected alive before i (map seven_bytes l) ≡ stages_text v projected alive before i l
  unfolding stages_text
  stages_alike v projected before i [] h = refl
  stages_alike v projected before i (s ∷ r) h =
      rw (
        marked_alike (s ∷ r) h,
        line_alike s h.0 h.1 alive i,
        before_alike s h.0 h.1 i,
        stages_alike v projected (before_of i s) (suc i) r h.2,
      )

reports_alike : (i : ℕ) (l : List Stage) → AllOfTwo l → reports_from i (map seven_bytes l) ≡ reports_from i l
unfolding reports_from applies_colour applies_alpha applied_reports bump alpha_written alpha_from_colour falls_back reads
reports_alike i [] h = refl
reports_alike i (s ∷ r) h = rw (reports_alike (suc i) r h.2, h.0, h.1)

-- ---------------------------------------------------------------- the answer

rows_alike : (l : List Stage) → AllOfTwo l → rows_of (map seven_bytes l) ≡ rows_of l
unfolding rows_of
rows_alike l h = rw (last_alike 0 l h, factors_alike l h)

warnings_alike : (c : Cause) (l : List Stage) → AllOfTwo l → warned_stages c (map seven_bytes l) ≡ warned_stages c l
unfolding warned_stages
warnings_alike c l h = rw (reports_alike 0 l h)

body_alike : (k : Key) (v : Variant) (l : List Stage) → AllOfTwo l → body_text (effective (narrow k)) v (map seven_bytes l) ≡ body_text (effective k) v l
unfolding body_text parameters_text
body_alike k v l h = rw (live_alike l h, env_alike (live l) l h, samplers_alike v 0 l, stages_alike (live l) v k.projected None 0 l h)

-- where the stages that take effect are those of the narrow key, but for arguments 0 that no op has
module _ (k : Key) (e : effective_stages (narrow k) ≡ map seven_bytes (effective_stages k)) (h : AllOfTwo (effective_stages k)) where
  abbrev ss : List Stage
  ss = active_stages k

  of_two_lem : AllOfTwo ss
  of_two_lem = active_of_two (effective_stages k) h

  stages_tie : active_stages (narrow k) ≡ map seven_bytes ss
  stages_tie = ap active e ∙ active_alike (effective_stages k)

  text_tie : (v : Variant) (n : Entry) → text_of (narrow k) v n ≡ text_of k v n
  unfolding whole_text
  text_tie v n = rw (stages_tie, body_alike k v ss of_two_lem)

  emitted_tie : (v : Variant) (n : Entry) → emitted_of (narrow k) v n ≡ emitted_of k v n
  emitted_tie v n =
      rw (
        text_tie v n,
        stages_tie,
        mask_alike ss,
        rows_alike ss of_two_lem,
        live_alike ss of_two_lem,
        lookups_alike (live ss) ss of_two_lem,
        warnings_alike op_cause ss of_two_lem,
        warnings_alike selector_cause ss of_two_lem,
        warnings_alike modifier_cause ss of_two_lem,
      )

  answer_tie : (v : Variant) (n : Entry) (room : ℕ) → answer_of (narrow k) v n room ≡ answer_of k v n room
  unfolding answer_of
  answer_tie v n room = rw (flags_alike k.stages, emitted_tie v n, text_tie v n)

narrow_of_two : (l : List Stage) → AllOfTwo (map narrow_stage l)
narrow_of_two [] = tt
narrow_of_two (s ∷ r) = (narrow_op_lem s.colour.op, narrow_op_lem s.alpha.op, narrow_of_two r)

narrow_seven : (l : List Stage) → map narrow_stage (map seven_bytes l) ≡ map seven_bytes (map narrow_stage l)
narrow_seven [] = refl
narrow_seven (s ∷ r) = rw (narrow_seven r)

narrow_already : (l : List Stage) → AllOfTwo l → map narrow_stage (map seven_bytes l) ≡ map seven_bytes l
narrow_already [] h = refl
narrow_already (s ∷ r) h = rw (h.0, h.1, narrow_already r h.2)

-- A key of kind 1, whatever its arguments 0 are.
module _ (k : Key) (w : k.wide ≡ false) where
  kind_one : effective_stages (narrow k) ≡ map seven_bytes (effective_stages k)
  unfolding effective_stages
  kind_one = rw w (narrow_seven k.stages)

  kind_one_of_two : AllOfTwo (effective_stages k)
  unfolding effective_stages
  kind_one_of_two = rw w (narrow_of_two k.stages)

  pub kind_one_text : (v : Variant) (n : Entry) → text_of (narrow k) v n ≡ text_of k v n
  kind_one_text = text_tie k kind_one kind_one_of_two

  pub kind_one_emitted : (v : Variant) (n : Entry) → emitted_of (narrow k) v n ≡ emitted_of k v n
  kind_one_emitted = emitted_tie k kind_one kind_one_of_two

  pub kind_one_answer : (v : Variant) (n : Entry) (room : ℕ) → answer_of (narrow k) v n room ≡ answer_of k v n room
  kind_one_answer = answer_tie k kind_one kind_one_of_two

none_of_three : (l : List Stage) → T (not (any_of_three l)) → AllOfTwo l
unfolding any_of_three
none_of_three [] t = tt
none_of_three (s ∷ r) t =
    let c = three_operands s.colour.op in
    let a = three_operands s.alpha.op in
    let own = neither_fst (c || a) _ t in
    (false_of c (neither_fst c a own), false_of a (neither_snd c a own), none_of_three r (neither_snd (c || a) _ t))

-- A key of kind 6 without ops 25 and 26, whatever its arguments 0 are.
module _ (k : Key) (w : k.wide ≡ true) (t : T (not (any_of_three k.stages))) where
  kind_six : effective_stages (narrow k) ≡ map seven_bytes (effective_stages k)
  unfolding effective_stages
  kind_six = rw w (narrow_already k.stages (none_of_three k.stages t))

  kind_six_of_two : AllOfTwo (effective_stages k)
  unfolding effective_stages
  kind_six_of_two = rw w (none_of_three k.stages t)

  pub kind_six_text : (v : Variant) (n : Entry) → text_of (narrow k) v n ≡ text_of k v n
  kind_six_text = text_tie k kind_six kind_six_of_two

  pub kind_six_answer : (v : Variant) (n : Entry) (room : ℕ) → answer_of (narrow k) v n room ≡ answer_of k v n room
  kind_six_answer = answer_tie k kind_six kind_six_of_two
