-- The uses in the lines of a lookup: of its coordinate, and in a displacement of the texel and the bump environment.
use Prim.Native.Nat.{ℕ, ◌+◌, ◌*◌, ◌<◌}
use mathlib.Core.List.{List, [], ◌∷◌, ◌++◌}
use mathlib.Core.Bool.{Bool, true, false, ◌||◌}
use lib.Dec.{T}
use Rattle.std.specs.Prelude.{Some}
use Rattle.text.specs.Text.{Text, lit, bytes, flat, when, decimal}
use Rattle.text.specs.Format.{format, ◌≔◌}
use Rattle.combiners.specs.Arguments.{texel_name}
use Rattle.shader.specs.Lookups.{coordinate_text, bump_row, uv_text, gather_text, depth_text, compare_text, plain_text, texel_line, projected_line, lookup_text, divided_line, offset_text, moved_text, displaced_line, displacement_text, luminance_line, sample_text}
use Rattle.shader.specs.declared.Coordinate.{Coordinate}
use Rattle.shader.specs.declared.Coordinate.TheVariants.{Interpolated, Divided, Projected}
use Rattle.shader.specs.declared.Lookup.{Lookup}
use Rattle.shader.specs.declared.Lookup.TheVariants.{Fetch4, DepthFetch, DepthCompare, Plain}
use Rattle.values.specs.Listed.{Name}
use Rattle.shader.specs.Names.{tokens}
use Rattle.shader.proofs.Names.Scan.{scan}
use Rattle.shader.proofs.Names.Words.{the, Word, word_of}
use Rattle.shader.proofs.Names.Arguments.{texel, texel_word}
use Rattle.shader.proofs.Names.Order.{coordinate_of, divided_word, projected_word}
use Rattle.shader.proofs.Names.Idle.{used_first}
use Rattle.shader.proofs.Names.Mentions.{Mentions, mentions_left, mentions_right, Finds, name_finds, pick_finds, format_finds, line_mentions}

env_word : Word (bytes "bump_env") (the "bump_env")
env_word = word_of (the "bump_env") (bytes "bump_env") (λ b. tt)

-- a row of the bump environment
row_finds : (k : ℕ) → Finds (the "bump_env") (bump_row k)
unfolding bump_row
row_finds k =
    record {
      on =
          λ b p r s. let x : List ℕ = bytes "[" ++ ((flat (decimal k) ++ bytes "]") ++ r) in
          rw (env_word.used b p x tt) (used_first (the "bump_env") (scan [] (tokens x)));
    }

module _ {n : Name} {tc : Text} (f : Finds n tc) where
  uv_finds : (projected three : Bool) → Finds n (uv_text projected three tc)
  unfolding uv_text
  uv_finds projected three =
      pick_finds (λ t. format_finds "({tc}.w != 0.0 ? {quotient} : {zero})" "tc" tt f) (λ t. format_finds "{tc}.{xyz}" "tc" tt f)

  gather_finds : (alpha projected : Bool) (i : ℕ) → Finds n (gather_text alpha projected i tc)
  unfolding gather_text
  gather_finds alpha projected i = format_finds "{s}.gather({samp}, ({uv}) + {half}{component}).zxyw" "uv" tt (uv_finds projected false)

  depth_finds : (lod projected : Bool) (i : ℕ) → Finds n (depth_text lod projected i tc)
  unfolding depth_text
  depth_finds lod projected i = format_finds "{s}.sample({samp}, {uv}, {level})" "uv" tt (uv_finds projected false)

  fetch_finds : (red lod projected : Bool) (i : ℕ)
      → Finds n (format "float4({depth}{fill})" (("depth" ≔ depth_text lod projected i tc) ∷ ("fill" ≔ when red (lit ", 0.0, 0.0, 1.0")) ∷ []))
  fetch_finds true lod projected i = format_finds "float4({depth}{fill})" "depth" tt (depth_finds lod projected i)
  fetch_finds false lod projected i = format_finds "float4({depth}{fill})" "depth" tt (depth_finds lod projected i)

  compare_finds : (lod : Bool) (i : ℕ) → Finds n (compare_text lod i tc)
  unfolding compare_text
  compare_finds lod i =
      format_finds "float4({s}.sample_compare({samp}, {at}, {level}))" "at" tt (format_finds "{tc}.xy, saturate({tc}.z)" "tc" tt f)

  plain_finds : (lod three projected : Bool) (i : ℕ) → Finds n (plain_text lod three projected i tc)
  unfolding plain_text
  plain_finds true three projected i = format_finds "{s}.sample({samp}, {uv}{bias})" "uv" tt (uv_finds projected three)
  plain_finds false three projected i = format_finds "{s}.sample({samp}, {uv}{bias})" "uv" tt (uv_finds projected three)

  -- f is what the texel is read from
  texel_mentions : (i : ℕ) → Mentions n (flat (texel_line i tc))
  unfolding texel_line
  texel_mentions i = line_mentions "    float4 {t} = {sample};\n" "sample" (texel_line i tc) tt f

  projected_mentions : (i : ℕ) → Mentions n (flat (projected_line i tc))
  unfolding projected_line
  projected_mentions i = line_mentions "    float3 {proj} = {tc}.w != 0.0 ? {quotient} : float3(0.0);\n" "tc" (projected_line i tc) tt f

  moved_finds : (m : ℕ) → Finds n (moved_text m tc)
  unfolding moved_text
  moved_finds m = format_finds "{base}.xy + float2({du}, {dv})" "base" tt f

-- a lookup uses its coordinate
pub lookup_mentions : {n : Name} (f : Lookup) (lod projected : Bool) (i : ℕ) (c : Coordinate) → Finds n (coordinate_text i c)
    → Mentions n (flat (lookup_text f lod projected i c))
unfolding lookup_text
lookup_mentions (Fetch4 alpha) lod projected i c f = texel_mentions (gather_finds f alpha projected i) i
lookup_mentions (DepthFetch red) lod projected i c f = texel_mentions (fetch_finds f red lod projected i) i
lookup_mentions DepthCompare lod true i c f = mentions_left _ (projected_mentions f i)
lookup_mentions DepthCompare lod false i c f = texel_mentions (compare_finds f lod i) i
lookup_mentions (Plain three) lod projected i c f = texel_mentions (plain_finds f lod three projected i) i

-- and the projected coordinate that it declares
pub compared_mentions : (lod : Bool) (i : ℕ) (c : Coordinate) → i < 8
    → Mentions (coordinate_of i Projected) (flat (lookup_text DepthCompare lod true i c))
unfolding lookup_text
compared_mentions lod i c l =
    mentions_right (flat (projected_line i (coordinate_text i c)))
    (texel_mentions (compare_finds (name_finds {t = coordinate_text i Projected} (projected_word i l)) lod i) i)

module _ (i n : ℕ) where
  base_mentions : {m : Name} (c : Coordinate) → Finds m (coordinate_text i c) → Mentions m (flat (displaced_line i n c))
  unfolding displaced_line
  base_mentions c f = line_mentions "    float4 {bc} = float4({moved}, {base}.zw);\n" "moved" (displaced_line i n c) tt (moved_finds f n)

  -- what moves the coordinate
  offset_mentions : {m : Name} (c : Coordinate) → Finds m (offset_text n (lit ".x * ") (lit ".z * ")) → Mentions m (flat (displaced_line i n c))
  unfolding displaced_line moved_text
  offset_mentions c f =
      line_mentions "    float4 {bc} = float4({moved}, {base}.zw);\n" "moved" (displaced_line i n c) tt
      (format_finds "{base}.xy + float2({du}, {dv})" "du" tt f)

  mover_mentions : (c : Coordinate) → n < 8 → Mentions (texel n) (flat (displaced_line i n c))
  unfolding offset_text
  mover_mentions c l =
      offset_mentions c (format_finds "{matrix}.x * {t}.x + {matrix}.z * {t}.y" "t" tt (name_finds {t = texel_name n} (texel_word n l)))

  matrix_mentions : (c : Coordinate) → Mentions (the "bump_env") (flat (displaced_line i n c))
  unfolding offset_text
  matrix_mentions c = offset_mentions c (format_finds "{matrix}.x * {t}.x + {matrix}.z * {t}.y" "matrix" tt (row_finds (2 * n)))

  pub divided_mentions : i < 8 → Mentions (coordinate_of i Divided) (flat (displacement_text true i n))
  unfolding displacement_text
  divided_mentions l =
      mentions_right (flat (divided_line i)) (base_mentions Divided (name_finds {t = coordinate_text i Divided} (divided_word i l)))

  -- what the displaced line uses, however the coordinate is divided
  displacement_mentions : {m : Name} (projected : Bool) → ((c : Coordinate) → Mentions m (flat (displaced_line i n c)))
      → Mentions m (flat (displacement_text projected i n))
  unfolding displacement_text
  displacement_mentions true h = mentions_right (flat (divided_line i)) (h Divided)
  displacement_mentions false h = h Interpolated

  luminance_env : Mentions (the "bump_env") (flat (luminance_line false i n))
  unfolding luminance_line
  luminance_env =
      let t : Text = format "    {t} *= saturate({light}.y);\n" (("t" ≔ texel_name i) ∷ ("light" ≔ bump_row (2 * n + 1)) ∷ []) in
      let m : Mentions (the "bump_env") (flat t) = line_mentions "    {t} *= saturate({light}.y);\n" "light" t tt (row_finds (2 * n + 1)) in
      record { on = m.on }

-- what a lookup behind a bump stage uses
module _ (n : ℕ) (f : Lookup) (lod projected : Bool) (i : ℕ) where
  pub sample_texel : (tex lum : Bool) → n < 8 → T tex
      → Mentions (texel n) (flat (sample_text (Some (record { stage = n; textured = tex; luminance = lum })) f lod projected i))
  unfolding sample_text
  sample_texel true lum l t = mentions_left _ (mentions_left _ (displacement_mentions i n projected (λ c. mover_mentions i n c l)))
  sample_texel false lum l t = absurd t

  pub sample_env : (tex lum : Bool) → T (tex || lum)
      → Mentions (the "bump_env") (flat (sample_text (Some (record { stage = n; textured = tex; luminance = lum })) f lod projected i))
  unfolding sample_text
  sample_env true lum t = mentions_left _ (mentions_left _ (displacement_mentions i n projected (matrix_mentions i n)))
  sample_env false true t = mentions_right (flat (lookup_text f lod projected i Interpolated)) (luminance_env i n)
  sample_env false false t = absurd t
