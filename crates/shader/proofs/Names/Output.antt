-- The check of the output: specular, fog, alpha test, sRGB and the return.
use Prim.Native.Nat.{ℕ, ◌≤◌}
use mathlib.Core.Path.{refl}
use mathlib.Core.List.{List, [], ◌∷◌, append_assoc}
use mathlib.Core.Bool.{Bool, true, false, not, cond}
use native.Mathlib.Omega.{arith}
use lib.Dec.{T, eqb, lit≤}
use Rattle.text.specs.Text.{◌⊕◌, lit, bytes, flat, decimal}
use Rattle.text.specs.Format.{format, ◌≔◌}
use Rattle.shader.specs.Output.{srgb_write, sample_mask, fog_source_w, fogged, tested, specular_text, fog_depth_text, fog_factor_text, fog_text, comparison_text, test_text, srgb_text, return_text, output_text}
use Rattle.values.specs.declared.Variant.{Variant}
use Rattle.values.specs.Listed.{Name}
use Rattle.shader.proofs.Names.Truth.{inl, inr, cond_cases}
use Rattle.shader.proofs.Names.Check.{Aim, Known, declaring}
use Rattle.shader.proofs.Names.Frag.{has_more, Reads, literal, ◌⨾◌, done, Frag, arg, pick_frag, loses, forgotten}
use Rattle.shader.proofs.Names.Words.{the, number_frag, numeral_more, decimal_numeral}
use Rattle.shader.proofs.Names.Templates.{format_reads, text_frag}
use Rattle.shader.proofs.Names.Order.{aim}
use Rattle.shader.proofs.Names.Stages.{later}

-- a part that stands only where b holds
pub when_reads : {A : Aim} {K : Known} (b : Bool) (x : List ℕ) → (T b → Reads A K [] x K []) → Reads A K [] (cond b x []) K []
when_reads true x h = h tt
when_reads false x h = done

module _ (sprite : Bool) (rows total : ℕ) (named : Name → Bool) where
  abbrev A : Aim
  A = aim sprite rows total named

  specular_reads : (on : Bool) (K : Known) → T (K.has (the "in")) → T (K.has (the "current")) → Reads A K [] (flat (specular_text on)) K []
  unfolding specular_text
  specular_reads on K i c = when_reads on _ (λ t. literal (λ r k. (c, (c, (i, (c, k))))))

  srgb_reads : (on : Bool) (K : Known) → T (K.has (the "oC0")) → Reads A K [] (flat (srgb_text on)) K []
  unfolding srgb_text
  srgb_reads on K o = when_reads on _ (λ t. literal (λ r k. (o, (o, k))))

  -- what fog declares is not used behind it
  depth_reads : (w : Bool) (K : Known) → K.next ≤ 81 → T (K.has (the "in")) → T (K.has (the "fog_data"))
      → Reads A K [] (flat (fog_depth_text w)) (declaring A (the "fog_c") K) []
  unfolding fog_depth_text
  depth_reads w K p i f =
      cond_cases w _ _ (λ x. Reads A K [] x (declaring A (the "fog_c") K) []) (λ t. literal (λ r k. ((p, tt), (i, k))))
      (λ t. literal (λ r k. ((p, tt), (i, (f, k)))))

  abbrev factored : Known → Known
  factored K = declaring A (the "fog_f") K

  factor_reads : (mode : ℕ) (K : Known) → K.next ≤ 82 → T (K.has (the "fog_data")) → T (K.has (the "fog_c"))
      → Reads A K [] (flat (fog_factor_text mode)) (factored K) []
  unfolding fog_factor_text
  factor_reads mode K p f c =
      cond_cases (eqb mode 1) _ _ (λ x. Reads A K [] x (factored K) []) (λ t. literal (λ r k. ((omega arith, tt), (f, (c, k))))) λ t.
      cond_cases (eqb mode 2) _ _ (λ x. Reads A K [] x (factored K) [])
      (λ t. loses (forgotten A (the "fog_dz") (the "fog_f") K tt) (literal (λ r k. ((omega arith, tt), (f, (c, ((lit≤ tt, tt), (tt, (tt, k)))))))))
      (λ t. loses (forgotten A (the "fog_range") (the "fog_f") K tt)
      (literal (λ r k. ((omega arith, tt), (f, (f, ((lit≤ tt, tt), (tt, (c, (f, (f, (c, (tt, k)))))))))))))

  fog_reads : (v : Variant) (K : Known) → K.next ≤ 81 → T (K.has (the "in")) → T (K.has (the "oC0"))
      → (T (fogged v) → T (K.has (the "fog_data"))) → Reads A K [] (flat (fog_text v)) (later 85 K.seen K) []
  unfolding fog_text
  fog_reads v K p i o f =
      cond_cases (eqb v.fog_table_mode 0) _ _ (λ x. Reads A K [] x (later 85 K.seen K) [])
      (λ t. loses (record { more = λ n h. h; lower = omega arith; same = refl })
      (when_reads (not (eqb v.fog_mode 0)) _
      (λ m. let d = f (inl (not (eqb v.fog_mode 0)) _ m) in literal (λ r k. (o, (d, (o, (i, (o, k)))))))))
      (λ t.
      let d = f (inr (not (eqb v.fog_mode 0)) _ t) in
      let K₁ : Known = declaring A (the "fog_c") K in
      depth_reads (fog_source_w v) K p i d
      ⨾ factor_reads v.fog_table_mode K₁ (lit≤ tt) d tt
      ⨾ loses (record { more = λ n h. has_more A (the "fog_f") K₁ n (has_more A (the "fog_c") K n h); lower = lit≤ tt; same = refl })
      (literal {K = factored K₁} {K' = factored K₁} (λ r k. (o, (d, (o, (tt, (o, k))))))))

  comparison_frag : (f : ℕ) (K : Known) → T (K.has (the "oC0")) → T (K.has (the "alpha_ref")) → Frag A K (comparison_text f)
  unfolding comparison_text
  comparison_frag f K o a =
      pick_frag (λ t. text_frag tt tt) λ t.
      pick_frag (λ t. text_frag tt (o, (a, tt))) λ t.
      pick_frag (λ t. text_frag tt (o, (a, tt))) λ t.
      pick_frag (λ t. text_frag tt (o, (a, tt))) λ t.
      pick_frag (λ t. text_frag tt (o, (a, tt))) λ t.
      pick_frag (λ t. text_frag tt (o, (a, tt))) λ t.
      pick_frag (λ t. text_frag tt (o, (a, tt))) (λ t. text_frag tt tt)

  test_reads : (v : Variant) (K : Known) → T (K.has (the "oC0")) → (T (tested v) → T (K.has (the "alpha_ref")))
      → Reads A K [] (flat (test_text v)) K []
  unfolding test_text
  test_reads v K o a =
      when_reads (tested v) _ λ t. format_reads "    if (!({comparison})) discard_fragment();\n"
      (format "    if (!({comparison})) discard_fragment();\n" (("comparison" ≔ comparison_text v.alpha_func) ∷ [])) tt
      (comparison_frag v.alpha_func K o (a t), tt)

  return_reads : (v : Variant) (K : Known) → T (K.has (the "oC0")) → Reads A K [] (flat (return_text v)) K []
  unfolding return_text
  return_reads v K o =
      cond_cases (sample_mask v) _ _ (λ x. Reads A K [] x K [])
      (λ t. literal {K' = K} {b' = []} {x = bytes "    return FfPsOut { oC0, "} (λ r k. (o, k))
      ⨾ rw (← append_assoc (flat (decimal v.sample_mask)) (bytes "u") (bytes " };\n}\n"))
      (arg {t = decimal v.sample_mask ⊕ lit "u"} (number_frag (numeral_more _ 117 tt (decimal_numeral 19 v.sample_mask))) tt
      (literal (λ r k. k))))
      (λ t. literal (λ r k. (o, k)))

  -- from the output's first line to the text's end
  pub output_reads : (specular : Bool) (v : Variant) (K : Known) → K.next ≤ 80 → T (K.has (the "in")) → T (K.has (the "current"))
      → (T (tested v) → T (K.has (the "alpha_ref"))) → (T (fogged v) → T (K.has (the "fog_data")))
      → Reads A K [] (flat (output_text specular v)) (later 85 K.seen (declaring A (the "oC0") K)) []
  unfolding output_text
  output_reads specular v K p i c a f =
      let K₁ : Known = declaring A (the "oC0") K in
      let K₂ : Known = later 85 K.seen K₁ in
      specular_reads specular K i c
      ⨾ literal {K' = K₁} {b' = []} {x = bytes "    float4 oC0 = current;\n"} (λ r k. ((p, tt), (c, k)))
      ⨾ fog_reads v K₁ (lit≤ tt) i tt f
      ⨾ test_reads v K₂ tt a
      ⨾ srgb_reads (srgb_write v) K₂ tt
      ⨾ return_reads v K₂ tt
