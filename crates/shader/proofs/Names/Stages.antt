-- The check of the stages: their expressions, lines and lookups.
use Prim.Native.Nat.{ℕ, suc, ◌+◌, ◌*◌, ◌≤◌, ◌<◌}
use mathlib.Core.Path.{◌≡◌, refl}
use mathlib.Core.List.{List, [], ◌∷◌, ◌++◌}
use mathlib.Core.Bool.{Bool, true, false, not, ◌&&◌, ◌||◌, cond}
use native.Mathlib.Omega.{arith}
use lib.Dec.{T, eqb}
use lib.ListN.{length}
use Rattle.std.specs.Prelude.{Option}
use Rattle.text.specs.Text.{flat}
use Rattle.combiners.specs.Codes.{bit, selector, blend_factor_alpha, texture, factor, temp, constant}
use Rattle.combiners.specs.Arguments.{source_of, arg_of, arg_text}
use Rattle.combiners.specs.Combiners.{keeps_first, keeps_second, three_operands, expression_text}
use Rattle.combiners.specs.declared.Source.TheVariants.{Diffuse, Current, Texture, Factor, Specular, Temp, Constant, White}
use Rattle.combiners.specs.declared.Expression.{Expression}
use Rattle.cascade.specs.Keys.{textured, to_temp, selects, falls_back, bump, reads_constant, names_factor, last_constant, any_factor}
use Rattle.cascade.specs.Stages.{current_arg, fallback, combined, expression_of, decode, result_name, line_text}
use Rattle.cascade.specs.Reading.{keeps, reads_temp_by, reads_texel_by, reads_temp, reads_texel, live, lined, marked, lookups_of, reads_bump_env}
use Rattle.values.specs.declared.Combiner.{Combiner}
use Rattle.values.specs.declared.Stage.{Stage}
use Rattle.cascade.specs.declared.Alpha.TheVariants.{FromColour, Kept, Written}
use Rattle.shader.specs.Lookups.{lookup_of, before_of, sample_text}
use Rattle.shader.specs.Output.{lod_bias}
use Rattle.shader.specs.Whole.{stage_line, stages_text}
use Rattle.values.specs.declared.Variant.{Variant}
use Rattle.shader.specs.declared.BumpStage.{BumpStage}
use Rattle.values.specs.Listed.{Name}
use Rattle.shader.proofs.Names.Truth.{true_of, and_snd, both, inl, inr, cond_cases}
use Rattle.shader.proofs.Names.Check.{Aim, Known, declaring, add_self}
use Rattle.shader.proofs.Names.Frag.{Has, has_more, Reads, ◌⨾◌, done, Frag, pick_frag, loses}
use Rattle.shader.proofs.Names.Words.{the}
use Rattle.shader.proofs.Names.Templates.{format_reads, text_frag}
use Rattle.shader.proofs.Names.Arguments.{Base, base_more, texel, Sure, arg_frag}
use Rattle.shader.proofs.Names.Operations.{op_frag}
use Rattle.shader.proofs.Names.Order.{aim, texture_of, sampler_of}
use Rattle.shader.proofs.Names.Lookups.{Behind, sample_reads}
use Rattle.shader.proofs.Names.Mentions.{Inside, mentions_left, mentions_right}
use Rattle.shader.proofs.Names.Locals.{stages_texel}
use Rattle.shader.proofs.Names.Rules.{Enabled, marked_bound, alpha_cases, colour_constant, alpha_constant, colour_factor, alpha_factor, last_head, last_tail, factor_head, factor_tail, live_head, live_tail, env_head, env_tail, mark_bump, mark_line, lined_temp, colour_reads, alpha_reads}

-- what a combiner's expression needs at stage i
pub record Readable (A : Aim) (K : Known) (i : ℕ) (tex : Bool) (c : Combiner) : Type 0 where
  pub is_texel : T (reads_texel_by tex c) → T (K.has (texel i))
  pub is_temp : T (reads_temp_by tex c) → T (K.has (the "temp"))
  pub is_constant : T (not (falls_back tex c)) → T (keeps constant tex c) → suc i < A.rows
  pub is_factor : T (keeps factor tex c || eqb c.op blend_factor_alpha) → 0 < A.rows

source_sure : (A : Aim) (K : Known) (i : ℕ) (tex : Bool) (s : ℕ) → (T tex → T (eqb s texture) → T (K.has (texel i)))
    → (T (eqb s factor) → 0 < A.rows) → (T (eqb s temp) → T (K.has (the "temp"))) → (T (eqb s constant) → suc i < A.rows)
    → Sure A K i (source_of tex s)
source_sure A K i tex s t f m c =
    cond_cases (eqb s 0) Diffuse _ (Sure A K i) (λ e. tt) λ e.
    cond_cases (eqb s 1) Current _ (Sure A K i) (λ e. tt) λ e.
    cond_cases (eqb s 2) _ _ (Sure A K i) (λ e. cond_cases tex Texture White (Sure A K i) (λ x. t x e) (λ x. tt)) λ e.
    cond_cases (eqb s 3) Factor _ (Sure A K i) f λ e.
    cond_cases (eqb s 4) Specular _ (Sure A K i) (λ e. tt) λ e.
    cond_cases (eqb s 5) Temp _ (Sure A K i) m λ e.
    cond_cases (eqb s 6) Constant White (Sure A K i) c (λ e. tt)

module _ {A : Aim} {K : Known} (base : Base K) (i : ℕ) (l : i < 8) where
  fallback_frag : (tex : Bool) → Frag A K (expression_text i tex fallback)
  unfolding expression_text
  fallback_frag tex =
      op_frag base i l tex 2 _ _ _ (λ t. arg_frag base i l current_arg tt) (λ t. absurd t) (λ t. absurd t) (λ t. absurd (and_snd tex false t))
      (λ t. absurd t)

  module _ (tex : Bool) (c : Combiner) (x : Readable A K i tex c) where
    -- an argument whose selector the combiner keeps
    argument_frag : T (not (falls_back tex c)) → (a : ℕ) → ((k : ℕ) → T (selects k a) → T (keeps k tex c))
        → Frag A K (arg_text i (arg_of tex a))
    argument_frag n a k =
        arg_frag base i l (arg_of tex a)
        (source_sure A K i tex (selector a)
        (λ u t. x.is_texel (both (not (falls_back tex c)) _ n (inl (keeps texture tex c) _ (k texture t))))
        (λ t. x.is_factor (inl (keeps factor tex c) _ (k factor t)))
        (λ t. x.is_temp (both (not (falls_back tex c)) _ n (k temp t))) (λ t. x.is_constant n (k constant t)))

    combined_frag : T (not (falls_back tex c)) → Frag A K (expression_text i tex (combined tex c))
    unfolding expression_text keeps
    combined_frag n =
        op_frag base i l tex c.op _ _ _
        (λ k. argument_frag n c.arg1
        (λ s t. inl (keeps_first tex c.op && selects s c.arg1) _ (both (keeps_first tex c.op) _ k t)))
        (λ k. argument_frag n c.arg2
        (λ s t. inr (keeps_first tex c.op && selects s c.arg1) _
        (inl (keeps_second tex c.op && selects s c.arg2) _ (both (keeps_second tex c.op) _ k t))))
        (λ k. rw (true_of (three_operands c.op) k)
        (argument_frag n c.arg0
        (λ s t. inr (keeps_first tex c.op && selects s c.arg1) _
        (inr (keeps_second tex c.op && selects s c.arg2) _ (both (three_operands c.op) _ k t)))))
        (λ t. x.is_texel (both (not (falls_back tex c)) _ n (inr (keeps texture tex c) _ t)))
        (λ t. x.is_factor (inr (keeps factor tex c) _ t))

    expression_frag : Frag A K (expression_text i tex (expression_of tex c))
    unfolding expression_of
    expression_frag =
        cond_cases (falls_back tex c) fallback (combined tex c) (λ e. Frag A K (expression_text i tex e))
        (λ t. fallback_frag tex) combined_frag

  -- the line of a stage
  module _ (tex temped : Bool) (is_temp : T temped → T (K.has (the "temp"))) (colour : Expression) (f : Frag A K (expression_text i tex colour)) where
    result_frag : Frag A K (result_name temped)
    result_frag = pick_frag (λ t. text_frag tt (is_temp t, tt)) (λ t. text_frag tt (base.is_current, tt))

    colour_line_lem : Reads A K [] (flat (line_text i tex temped colour FromColour)) K []
    unfolding line_text
    colour_line_lem = format_reads "    {result} = {colour};\n" (line_text i tex temped colour FromColour) tt (result_frag, (f, tt))

    kept_line_lem : Reads A K [] (flat (line_text i tex temped colour Kept)) K []
    unfolding line_text
    kept_line_lem =
        format_reads "    {result} = float4(({colour}).rgb, ({result}).a);\n" (line_text i tex temped colour Kept) tt
        (result_frag, (f, (result_frag, tt)))

    written_line_lem : (e : Expression) → Frag A K (expression_text i tex e)
        → Reads A K [] (flat (line_text i tex temped colour (Written e))) K []
    unfolding line_text
    written_line_lem e g =
        format_reads "    {result} = float4(({colour}).rgb, ({alpha}).a);\n" (line_text i tex temped colour (Written e)) tt
        (result_frag, (f, (g, tt)))

-- the textures and samplers of these stages, from stage i on, are known
abbrev pub Textured : Known → ℕ → List Stage → Type 0
Textured K i [] = Unit {0}
Textured K i (s ∷ r) = (T (textured s) → T (K.has (texture_of i)) × T (K.has (sampler_of i))) × Textured K (suc i) r

pub textured_more : (K K' : Known) → Has K K' → (i : ℕ) (ss : List Stage) → Textured K i ss → Textured K' i ss
textured_more K K' u i [] t = tt
textured_more K K' u i (s ∷ r) t =
    ((λ x. (u (texture_of i) (t.0 x).0, u (sampler_of i) (t.0 x).1)), textured_more K K' u (suc i) r t.1)

-- the names of K, where others have been declared since
abbrev pub later : ℕ → ℕ → Known → Known
later n s K = record { has = K.has; next = n; seen = s }

module _ (sprite : Bool) (rows total : ℕ) (named : Name → Bool) (v : Variant) (projected : ℕ) (alive : Bool) where
  abbrev A : Aim
  A = aim sprite rows total named

  -- what is known before the stages ss, the first of them stage i
  pub record Env (K : Known) (before : Option BumpStage) (i : ℕ) (ss : List Stage) : Type 0 where
    pub small : i + length ss ≤ 8
    pub free : K.next ≤ 40 + 4 * i
    pub base : Base K
    pub is_temp : T alive → T (K.has (the "temp"))
    pub is_lod : T (lod_bias v) → T (K.has (the "lod_bias"))
    pub is_bump : T (reads_bump_env alive ss) → T (K.has (the "bump_env"))
    pub is_textured : Textured K i ss
    pub behind : T (marked alive ss) → Behind K before
    pub temps : T (live ss) → T alive
    pub constants : last_constant i ss ≤ rows
    pub factors : T (any_factor ss) → 0 < rows
    pub enabled : Enabled ss
    pub count : K.seen + lookups_of alive ss ≡ total
    pub inside : Inside named (flat (stages_text v projected alive before i ss))

  module _ (i : ℕ) (s : Stage) (r : List Stage) where
    line_reads : (K K₀ : Known) (before : Option BumpStage) → Has K₀ K → Env K₀ before i (s ∷ r) → (T (marked alive (s ∷ r)) → T (K.has (texel i)))
        → Reads A K [] (flat (stage_line alive i s (decode s))) K []
    unfolding stage_line decode reads_texel reads_temp
    line_reads K K₀ before u e m =
        cond_cases (bump s) _ _ (λ d. Reads A K [] (flat (stage_line alive i s d)) K []) (λ b. done) λ b.
        cond_cases (lined alive s) _ [] (λ x. Reads A K [] x K [])
        (λ ln.
        let l : i < 8 = omega (arith, e.small) in
        let base : Base K = base_more u e.base in
        let texels : T (reads_texel s) → T (K.has (texel i)) = λ t. m (mark_line alive s r b ln t) in
        let temps : T (reads_temp s) → T (K.has (the "temp")) = λ t. u _ (e.is_temp (e.temps (live_head s r b t))) in
        let constants : T (reads_constant s) → suc i < rows = λ t. omega (arith, last_head i s r t, e.constants) in
        let factors : T (names_factor s) → 0 < rows = λ t. e.factors (factor_head s r t) in
        let colour : Readable A K i (textured s) s.colour =
        record {
          is_texel = λ t. texels (colour_reads reads_texel_by s t);
          is_temp = λ t. temps (colour_reads reads_temp_by s t);
          is_constant = λ f t. constants (colour_constant s e.enabled.0 f t);
          is_factor = λ t. factors (colour_factor s t);
        } in
        let f = expression_frag base i l (textured s) s.colour colour in
        let temped : T (to_temp s) → T (K.has (the "temp")) = λ t. u _ (e.is_temp (lined_temp alive s ln t)) in
        alpha_cases s (λ a. Reads A K [] (flat (line_text i (textured s) (to_temp s) (expression_of (textured s) s.colour) a)) K [])
        (colour_line_lem base i l (textured s) (to_temp s) temped _ f) (kept_line_lem base i l (textured s) (to_temp s) temped _ f)
        (written_line_lem base i l (textured s) (to_temp s) temped _ f fallback (fallback_frag base i l (textured s)))
        (λ c n b w. written_line_lem base i l (textured s) (to_temp s) temped _ f (combined (textured s) s.alpha)
        (combined_frag base i l (textured s) s.alpha
        (record {
          is_texel = λ t. texels (alpha_reads reads_texel_by s w t);
          is_temp = λ t. temps (alpha_reads reads_temp_by s w t);
          is_constant = λ f t. constants (alpha_constant s c n f t);
          is_factor = λ t. factors (alpha_factor s n t);
        }) b)))
        (λ t. done)

    -- what is known behind stage i, its lookup marked or not
    next_env : (K K₁ : Known) (before : Option BumpStage) → Env K before i (s ∷ r) → Has K K₁ → K₁.next ≤ 44 + 4 * i
        → (T (marked alive (s ∷ r)) → T (K₁.has (texel i))) → K₁.seen + lookups_of alive r ≡ total
        → Inside named (flat (stages_text v projected alive (before_of i s) (suc i) r))
        → Env K₁ (before_of i s) (suc i) r
    unfolding before_of
    next_env K K₁ before e u f m c w =
        record {
          small = omega (arith, e.small);
          free = omega arith;
          base = base_more u e.base;
          is_temp = λ t. u _ (e.is_temp t);
          is_lod = λ t. u _ (e.is_lod t);
          is_bump = λ t. u _ (e.is_bump (env_tail alive s r t));
          is_textured = textured_more K K₁ u (suc i) r e.is_textured.1;
          behind = λ t. cond_cases (bump s) _ _ (Behind K₁)
              (λ b. (omega (arith, e.small), (λ x. u _ (e.is_bump (env_head alive s r t b x))), (λ x. m (mark_bump alive s r t b x))))
              (λ n. tt);
          temps = λ t. e.temps (live_tail s r t);
          constants = omega (arith, last_tail i s r, e.constants);
          factors = λ t. e.factors (factor_tail s r t);
          enabled = e.enabled.1;
          count = c;
          inside = w;
        }

  pub stages_read : (ss : List Stage) (before : Option BumpStage) (i : ℕ) (K : Known) → Env K before i ss
      → Reads A K [] (flat (stages_text v projected alive before i ss)) (later 72 total K) []
  unfolding stages_text lookups_of
  stages_read [] before i K e =
      loses (record { more = λ n t. t; lower = omega (arith, e.small, e.free); same = omega (arith, e.count) }) done
  stages_read (s ∷ r) before i K e =
      go (marked alive (s ∷ r)) (λ t. t) (λ t. t) e.count e.inside (stages_read r (before_of i s) (suc i))
    where
      S : List ℕ
      S = flat (sample_text before (lookup_of v i) (lod_bias v) (bit projected i) i)

      L : List ℕ
      L = flat (stage_line alive i s (decode s))

      R : List ℕ
      R = flat (stages_text v projected alive (before_of i s) (suc i) r)

      go : (m : Bool) → (T (marked alive (s ∷ r)) → T m) → (T m → T (marked alive (s ∷ r)))
          → K.seen + cond m (suc (lookups_of alive r)) (lookups_of alive r) ≡ total
          → Inside named (cond m S [] ++ (L ++ R))
          → ((K₁ : Known) → Env K₁ (before_of i s) (suc i) r → Reads A K₁ [] R (later 72 total K₁) [])
          → Reads A K [] (cond m S [] ++ (L ++ R)) (later 72 total K) []
      go true f g c w ih =
          let K₁ : Known = declaring A (texel i) K in
          let u : Has K K₁ = has_more A (texel i) K in
          let t : T (K₁.has (texel i)) = add_self (texel i) K.has in
          let x = e.is_textured.0 (marked_bound alive s r e.enabled.0 (g tt)) in
          let y = stages_texel v projected alive i s r (omega (arith, e.small)) e.enabled.0 (g tt) in
          sample_reads sprite rows total named i before (lookup_of v i) K (lod_bias v) (bit projected i) e.free
          (record { small = omega (arith, e.small); is_texture = x.0; is_sampler = x.1; is_lod = e.is_lod }) e.base.is_in
          (e.behind (g tt)) (w (texel i) (mentions_right S y)) (λ n x. w n (mentions_left _ x))
          ⨾ line_reads i s r K₁ K before u e (λ y. t)
          ⨾ loses (record { more = u; lower = omega arith; same = refl })
          (ih K₁ (next_env i s r K K₁ before e u (omega arith) (λ y. t) (omega arith) (λ n x. w n (mentions_right S (mentions_right L x)))))
      go false f g c w ih =
          line_reads i s r K K before (λ n t. t) e (λ y. absurd (f y)) ⨾ ih K
          (next_env i s r K K before e (λ n t. t) (omega (arith, e.free)) (λ y. absurd (f y)) c (λ n x. w n (mentions_right L x)))
