-- The check of the parameters.
use Prim.Native.Nat.{ℕ, ◌≤◌}
use mathlib.Core.Path.{◌≡◌, refl, ◌∙◌}
use mathlib.Core.List.{List, []}
use mathlib.Core.Bool.{Bool, true, false, not}
use native.Mathlib.Omega.{arith}
use lib.Dec.{T, lit≤}
use lib.ListN.{length}
use Rattle.text.specs.Text.{bytes, flat}
use Rattle.cascade.specs.Reading.{live, reads_bump_env}
use Rattle.values.specs.declared.Stage.{Stage}
use Rattle.shader.specs.Output.{point_sprite, lod_bias, fogged, tested}
use Rattle.shader.specs.Whole.{parameters_text}
use Rattle.values.specs.declared.Variant.{Variant}
use Rattle.values.specs.Listed.{Name}
use Rattle.shader.proofs.Names.Truth.{inl}
use Rattle.shader.proofs.Names.Check.{Aim, Known, declaring, nothing}
use Rattle.shader.proofs.Names.Frag.{literal, ◌⨾◌}
use Rattle.shader.proofs.Names.Words.{the}
use Rattle.shader.proofs.Names.Order.{aim}
use Rattle.shader.proofs.Names.Stages.{Textured}
use Rattle.shader.proofs.Names.Signature.{optional, optional_reads, entered, stage_in_reads, Passed, samplers_pass}

entered_next : (sprite : Bool) → (entered sprite).next ≤ 3
entered_next true = lit≤ tt
entered_next false = lit≤ tt

entered_seen : (sprite : Bool) → (entered sprite).seen ≡ 0
entered_seen true = refl
entered_seen false = refl

entered_in : (sprite : Bool) → T (not sprite) → T ((entered sprite).has (the "in"))
entered_in true t = absurd t
entered_in false t = tt

entered_stage : (sprite : Bool) → T sprite → T ((entered sprite).has (the "in_stage"))
entered_stage true t = tt
entered_stage false t = absurd t

entered_point : (sprite : Bool) → T sprite → T ((entered sprite).has (the "point_coord"))
entered_point true t = tt
entered_point false t = absurd t

module _ (v : Variant) (ss : List Stage) (rows total : ℕ) (named : Name → Bool) where
  abbrev sprite : Bool
  sprite = point_sprite v

  abbrev A : Aim
  A = aim sprite rows total named

  -- what the parameters leave known
  pub record Given (K : Known) : Type 0 where
    pub is_in : T (not sprite) → T (K.has (the "in"))
    pub is_stage : T sprite → T (K.has (the "in_stage"))
    pub is_point : T sprite → T (K.has (the "point_coord"))
    pub is_table : T (K.has (the "ps_c"))
    pub is_alpha : T (tested v) → T (K.has (the "alpha_ref"))
    pub is_fog : T (fogged v) → T (K.has (the "fog_data"))
    pub is_bump : T (reads_bump_env (live ss) ss) → T (K.has (the "bump_env"))
    pub is_lod : T (lod_bias v) → T (K.has (the "lod_bias"))
    pub is_textured : Textured K 0 ss

  pub parameters_pass : length ss ≤ 8 → (T (reads_bump_env (live ss) ss) → T (named (the "bump_env")))
      → Passed rows total named sprite nothing (flat (parameters_text v ss)) 26 Given
  unfolding parameters_text
  parameters_pass l env =
      let K₀ : Known = declaring A (the "ps_c") (entered sprite) in
      let K₁ : Known = optional A (tested v) (the "alpha_ref") K₀ in
      let K₂ : Known = optional A (fogged v) (the "fog_data") K₁ in
      let K₃ : Known = optional A (reads_bump_env (live ss) ss) (the "bump_env") K₂ in
      let K₄ : Known = optional A (lod_bias v) (the "lod_bias") K₃ in
      let g = samplers_pass rows total named sprite v ss 0 K₄ (omega arith) (lit≤ tt) in
      record {
        known = g.known;
        more = λ n t. absurd t;
        lower = g.lower;
        same = g.same ∙ entered_seen sprite;
        gives =
            record {
              is_in = λ t. g.more (the "in") (entered_in sprite t);
              is_stage = λ t. g.more (the "in_stage") (entered_stage sprite t);
              is_point = λ t. g.more (the "point_coord") (entered_point sprite t);
              is_table = g.more (the "ps_c") tt;
              is_alpha = λ t. g.more (the "alpha_ref") (inl (tested v) _ t);
              is_fog = λ t. g.more (the "fog_data") (inl (fogged v) _ t);
              is_bump = λ t. g.more (the "bump_env") (inl (reads_bump_env (live ss) ss) _ t);
              is_lod = λ t. g.more (the "lod_bias") (inl (lod_bias v) _ t);
              is_textured = g.gives;
            };
        reads =
            stage_in_reads rows total named sprite
            ⨾ literal {K' = K₀} {b' = []} {x = bytes "    constant float4 *ps_c [[buffer(15)]]"} (λ r k. ((entered_next sprite, tt), k))
            ⨾ optional_reads (tested v) (the "alpha_ref") (bytes ",\n    constant float &alpha_ref [[buffer(14)]]") tt (lit≤ tt)
            (λ w. literal (λ r k. ((lit≤ tt, tt), k)))
            ⨾ optional_reads (fogged v) (the "fog_data") (bytes ",\n    constant float4 *fog_data [[buffer(13)]]") tt (lit≤ tt)
            (λ w. literal (λ r k. ((lit≤ tt, tt), k)))
            ⨾ optional_reads (reads_bump_env (live ss) ss) (the "bump_env") (bytes ",\n    constant float4 *bump_env [[buffer(12)]]") tt
            (lit≤ tt) (λ w. literal (λ r k. ((lit≤ tt, env w), k)))
            ⨾ optional_reads (lod_bias v) (the "lod_bias") (bytes ",\n    constant float4 *lod_bias [[buffer(11)]]") tt (lit≤ tt)
            (λ w. literal (λ r k. ((lit≤ tt, tt), k)))
            ⨾ g.reads
            ⨾ literal {x = bytes "\n) {\n"} (λ r k. k);
      }
