-- The check of what a lookup reads.
use Prim.Native.Nat.{ℕ, ◌+◌, ◌<◌}
use mathlib.Core.List.{[], ◌∷◌, ◌++◌}
use mathlib.Core.Bool.{Bool, true, false}
use native.Mathlib.Omega.{arith}
use lib.Dec.{T}
use Rattle.text.specs.Text.{Text, raw, bytes, lit, pick, when}
use Rattle.text.specs.Format.{format, ◌≔◌}
use Rattle.shader.specs.Lookups.{texture_name, sampler_name, coordinate_text, lod_row, bump_row, level_text, quotient_text, uv_text, half_texel_text, gather_text, depth_text, compare_text, plain_text}
use Rattle.shader.specs.declared.Coordinate.{Coordinate}
use Rattle.shader.specs.declared.Coordinate.TheVariants.{Interpolated, Divided, Displaced, Projected}
use Rattle.shader.proofs.Names.Truth.{below_at}
use Rattle.shader.proofs.Names.Check.{Aim, Known}
use Rattle.shader.proofs.Names.Frag.{Has, Frag, followed, pick_frag}
use Rattle.shader.proofs.Names.Words.{the, name_frag, is_field, field_frag, number_frag, one_digit, decimal_numeral}
use Rattle.shader.proofs.Names.Templates.{format_frag, text_frag, either_frag}
use Rattle.shader.proofs.Names.Order.{texture_of, sampler_of, coordinate_of, texture_word, sampler_word, divided_word, displaced_word, projected_word}

-- what the lookup of stage i needs
pub record Bound (K : Known) (lod : Bool) (i : ℕ) : Type 0 where
  pub small : i < 8
  pub is_texture : T (K.has (texture_of i))
  pub is_sampler : T (K.has (sampler_of i))
  pub is_lod : T lod → T (K.has (the "lod_bias"))

pub bound_more : {K K' : Known} {lod : Bool} {i : ℕ} → Has K K' → Bound K lod i → Bound K' lod i
bound_more u b =
    record { small = b.small; is_texture = u _ b.is_texture; is_sampler = u _ b.is_sampler; is_lod = λ t. u _ (b.is_lod t) }

module _ {A : Aim} {K : Known} where
  pub bump_frag : T (K.has (the "bump_env")) → (k : ℕ) → Frag A K (bump_row k)
  unfolding bump_row
  bump_frag h k = format_frag "bump_env[{k}]" tt (h, (number_frag (decimal_numeral 19 k), tt))

  pub coordinate_frag : (i : ℕ) → i < 8 → (c : Coordinate) → T (K.has (coordinate_of i c)) → Frag A K (coordinate_text i c)
  unfolding coordinate_text
  coordinate_frag i l Interpolated h =
      let f : Frag A K (lit "in") = text_frag tt (h, tt) in
      let g : Frag A K (raw (46 ∷ (bytes "texcoord" ++ ((48 + i) ∷ [])))) =
      field_frag 116 _ (below_at (λ i. is_field (bytes "texcoord" ++ ((48 + i) ∷ []))) 8 i tt l) in
      record { reads = (followed f g tt).reads }
  coordinate_frag i l Divided h = name_frag (divided_word i l) h
  coordinate_frag i l Displaced h = name_frag (displaced_word i l) h
  coordinate_frag i l Projected h = name_frag (projected_word i l) h

  -- a coordinate's components, and their quotient by w
  components_frag : (three : Bool) {tc : Text} → Frag A K tc
      → Frag A K (format "{tc}.{xyz}" (("tc" ≔ tc) ∷ ("xyz" ≔ pick three (lit "xyz") (lit "xy")) ∷ []))
  components_frag true {tc} f =
      let g : Frag A K (format "{tc}.xyz" (("tc" ≔ tc) ∷ [])) = format_frag "{tc}.xyz" tt (f, tt) in
      record { reads = g.reads }
  components_frag false {tc} f =
      let g : Frag A K (format "{tc}.xy" (("tc" ≔ tc) ∷ [])) = format_frag "{tc}.xy" tt (f, tt) in
      record { reads = g.reads }

  pub quotient_frag : (three : Bool) {tc : Text} → Frag A K tc → Frag A K (quotient_text three tc)
  unfolding quotient_text
  quotient_frag true {tc} f =
      let g : Frag A K (format "{tc}.xyz / {tc}.w" (("tc" ≔ tc) ∷ [])) = format_frag "{tc}.xyz / {tc}.w" tt (f, (f, tt)) in
      record { reads = g.reads }
  quotient_frag false {tc} f =
      let g : Frag A K (format "{tc}.xy / {tc}.w" (("tc" ≔ tc) ∷ [])) = format_frag "{tc}.xy / {tc}.w" tt (f, (f, tt)) in
      record { reads = g.reads }

  uv_frag : (projected three : Bool) {tc : Text} → Frag A K tc → Frag A K (uv_text projected three tc)
  unfolding uv_text
  uv_frag projected three f =
      pick_frag (λ t. format_frag "({tc}.w != 0.0 ? {quotient} : {zero})" tt (f, (quotient_frag three f, (either_frag tt, tt))))
      (λ t. components_frag three f)

  -- what the lookup of stage i reads at a coordinate
  module _ {lod : Bool} {i : ℕ} (b : Bound K lod i) {tc : Text} (f : Frag A K tc) where
    s_frag : Frag A K (texture_name i)
    s_frag = name_frag (texture_word i b.small) b.is_texture

    samp_frag : Frag A K (sampler_name i)
    samp_frag = name_frag (sampler_word i b.small) b.is_sampler

    lod_frag : T lod → Frag A K (lod_row i)
    unfolding lod_row
    lod_frag t = let l = b.small in format_frag "lod_bias[{i}]" tt (b.is_lod t, (number_frag (one_digit i (omega arith)), tt))

    level_frag : Frag A K (level_text lod i)
    unfolding level_text
    level_frag = pick_frag (λ t. format_frag "level(max({row}.w, 0.0))" tt (lod_frag t, tt)) (λ t. text_frag tt tt)

    half_frag : Frag A K (half_texel_text i)
    unfolding half_texel_text
    half_frag = format_frag "0.5 / float2({s}.get_width(), {s}.get_height())" tt (s_frag, (s_frag, tt))

    pub gather_frag : (alpha projected : Bool) → Frag A K (gather_text alpha projected i tc)
    unfolding gather_text
    gather_frag true projected =
        format_frag "{s}.gather({samp}, ({uv}) + {half}{component}).zxyw" tt
        (s_frag, (samp_frag, (uv_frag projected false f, (half_frag, (either_frag tt, tt)))))
    gather_frag false projected =
        format_frag "{s}.gather({samp}, ({uv}) + {half}{component}).zxyw" tt
        (s_frag, (samp_frag, (uv_frag projected false f, (half_frag, (either_frag tt, tt)))))

    depth_frag : (projected : Bool) → Frag A K (depth_text lod projected i tc)
    unfolding depth_text
    depth_frag projected =
        format_frag "{s}.sample({samp}, {uv}, {level})" tt (s_frag, (samp_frag, (uv_frag projected false f, (level_frag, tt))))

    pub fetch_frag : (red projected : Bool)
        → Frag A K (format "float4({depth}{fill})" (("depth" ≔ depth_text lod projected i tc) ∷ ("fill" ≔ when red (lit ", 0.0, 0.0, 1.0")) ∷ []))
    fetch_frag true projected = format_frag "float4({depth}{fill})" tt (depth_frag projected, (either_frag tt, tt))
    fetch_frag false projected = format_frag "float4({depth}{fill})" tt (depth_frag projected, (either_frag tt, tt))

    pub compare_frag : Frag A K (compare_text lod i tc)
    unfolding compare_text
    compare_frag =
        format_frag "float4({s}.sample_compare({samp}, {at}, {level}))" tt
        (s_frag, (samp_frag, (format_frag "{tc}.xy, saturate({tc}.z)" tt (f, (f, tt)), (level_frag, tt))))

-- a plain lookup, with a bias or without
pub plain_frag : {A : Aim} {K : Known} (lod three projected : Bool) {i : ℕ} {tc : Text} → Bound K lod i → Frag A K tc
    → Frag A K (plain_text lod three projected i tc)
unfolding plain_text
plain_frag true three projected b f =
    format_frag "{s}.sample({samp}, {uv}{bias})" tt (
      s_frag b f,
      (
        samp_frag b f,
        (uv_frag projected three f, (pick_frag (λ t. format_frag ", bias({row}.x)" tt (lod_frag b f t, tt)) (λ t. text_frag tt tt), tt)),
      ),
    )
plain_frag false three projected b f =
    format_frag "{s}.sample({samp}, {uv}{bias})" tt
    (s_frag b f, (samp_frag b f, (uv_frag projected three f, (pick_frag (λ t. absurd t) (λ t. text_frag tt tt), tt))))
