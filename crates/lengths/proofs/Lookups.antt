-- A stage's lookup and its parameters. At the stage's own coordinate a lookup takes at most 199 bytes, a depth comparison 203, but the texture of a
-- comparison has a shorter type; behind a bump stage a lookup takes 237 bytes more, or 243 where the rows of the bump stage have two digits.
use Prim.Native.Nat.{ℕ, ◌+◌, ◌-◌, ◌*◌, ◌≤◌, ◌<◌, min}
use mathlib.Core.Bool.{Bool, true, false, cond}
use native.Mathlib.Omega.{arith}
use native.Mathlib.Nat.{le_trans}
use lib.Dec.{leb, leb→le, lit≤}
use Rattle.std.specs.Prelude.{Option, Some, None}
use Rattle.text.specs.Text.{size, decimal_of}
use Rattle.text.proofs.Size.{most, size_most}
use Rattle.combiners.specs.Codes.{bit}
use Rattle.combiners.specs.Arguments.{texel_name}
use Rattle.shader.specs.Lookups.{lookup_of, texture_type_of, type_text, texture_name, sampler_name, coordinate_text, lod_row, bump_row, level_text, quotient_text, uv_text, half_texel_text, gather_text, depth_text, compare_text, plain_text, texel_line, projected_line, lookup_text, divided_line, offset_text, moved_text, displaced_line, displacement_text, luminance_line, sample_text}
use Rattle.shader.specs.Whole.{texture_parameter, sampler_parameter}
use Rattle.shader.specs.declared.Coordinate.TheVariants.{Interpolated, Displaced}
use Rattle.shader.specs.declared.Lookup.{Lookup}
use Rattle.shader.specs.declared.Lookup.TheVariants.{Fetch4, DepthFetch, DepthCompare, Plain}
use Rattle.shader.specs.declared.TextureType.TheVariants.{Depth, Volume, Cube, Flat}
use Rattle.shader.specs.declared.BumpStage.{BumpStage}
use Rattle.shader.proofs.Names.Truth.{below_at}
use Rattle.values.specs.declared.Variant.{Variant}
use Rattle.lengths.proofs.Sums.{flag}

-- ---------------------------------------------------------------- lookups

abbrev pub is_compare : Lookup → Bool
is_compare (Fetch4 a) = false
is_compare (DepthFetch a) = false
is_compare DepthCompare = true
is_compare (Plain a) = false

own_most : (f : Lookup) (lod projected : Bool) (i : ℕ) → most (lookup_text f lod projected i Interpolated) ≤ 199 + 4 * flag (is_compare f)
unfolding lookup_text texel_line gather_text depth_text compare_text plain_text projected_line uv_text quotient_text half_texel_text
    level_text lod_row coordinate_text
    texture_name sampler_name texel_name flag
own_most (Fetch4 a) lod projected i = lit≤ tt
own_most (DepthFetch a) lod projected i = lit≤ tt
own_most DepthCompare lod projected i = lit≤ tt
own_most (Plain a) lod projected i = lit≤ tt

own_le : (f : Lookup) (lod projected : Bool) (i : ℕ) → size (lookup_text f lod projected i Interpolated) ≤ 199 + 4 * flag (is_compare f)
own_le f lod projected i = le_trans (size_most (lookup_text f lod projected i Interpolated)) (own_most f lod projected i)

-- at a displaced coordinate, which is divided already
displaced_le : (f : Lookup) (lod : Bool) (i : ℕ) → size (lookup_text f lod false i Displaced) ≤ 120
unfolding lookup_text texel_line gather_text depth_text compare_text plain_text projected_line uv_text quotient_text half_texel_text
    level_text lod_row coordinate_text
    texture_name sampler_name texel_name
displaced_le (Fetch4 true) lod i = lit≤ tt
displaced_le (Fetch4 false) lod i = lit≤ tt
displaced_le (DepthFetch true) true i = lit≤ tt
displaced_le (DepthFetch true) false i = lit≤ tt
displaced_le (DepthFetch false) true i = lit≤ tt
displaced_le (DepthFetch false) false i = lit≤ tt
displaced_le DepthCompare true i = lit≤ tt
displaced_le DepthCompare false i = lit≤ tt
displaced_le (Plain true) true i = lit≤ tt
displaced_le (Plain true) false i = lit≤ tt
displaced_le (Plain false) true i = lit≤ tt
displaced_le (Plain false) false i = lit≤ tt

-- ---------------------------------------------------------------- bump stages

-- 1 from stage 5 on, whose rows have two digits
abbrev pub two_digits : ℕ → ℕ
two_digits n = min n 5 - 4

-- one test over the stages
abbrev moves : Bool → ℕ → ℕ → Bool
moves projected i n = leb (size (displacement_text projected i n)) (258 + 4 * two_digits n)

abbrev scales : Bool → ℕ → ℕ → Bool
scales tex i n = leb (size (luminance_line tex i n)) (58 + 2 * two_digits n)

displacement_le : (projected : Bool) (i n : ℕ) → n < 8 → size (displacement_text projected i n) ≤ 258 + 4 * two_digits n
unfolding displacement_text divided_line displaced_line moved_text offset_text bump_row quotient_text coordinate_text texel_name decimal_of
displacement_le true i n h = leb→le _ _ (below_at (moves true i) 8 n tt h)
displacement_le false i n h = leb→le _ _ (below_at (moves false i) 8 n tt h)

luminance_le : (tex : Bool) (i n : ℕ) → n < 8 → size (luminance_line tex i n) ≤ 58 + 2 * two_digits n
unfolding luminance_line bump_row texel_name decimal_of
luminance_le true i n h = leb→le _ _ (below_at (scales true i) 8 n tt h)
luminance_le false i n h = leb→le _ _ (below_at (scales false i) 8 n tt h)

-- what a bump stage n adds to the next stage's lookup
abbrev pub added : ℕ → ℕ
added n = 237 + 6 * two_digits n

unfoldable pub gain : Option BumpStage → ℕ
gain None = 0
gain (Some b) = added b.stage

-- a stage before this one
abbrev pub Earlier : Option BumpStage → Type 0
Earlier None = Unit {0}
Earlier (Some b) = b.stage < 8

pub sample_le : (p : Option BumpStage) → Earlier p → (f : Lookup) (lod projected : Bool) (i : ℕ)
    → size (sample_text p f lod projected i) ≤ 199 + 4 * flag (is_compare f) + gain p
unfolding sample_text gain
sample_le None h f lod projected i = omega (arith, own_le f lod projected i)
sample_le (Some b) h f lod projected i = go b.textured b.luminance
  where
    go : (tex lum : Bool) → size (sample_text (Some (record { stage = b.stage; textured = tex; luminance = lum })) f lod projected i)
        ≤ 199 + 4 * flag (is_compare f) + added b.stage
    go true true = omega (arith, displacement_le projected i b.stage h, displaced_le f lod i, luminance_le true i b.stage h)
    go true false = omega (arith, displacement_le projected i b.stage h, displaced_le f lod i)
    go false true = omega (arith, own_le f lod projected i, luminance_le false i b.stage h)
    go false false = omega (arith, own_le f lod projected i)

-- ---------------------------------------------------------------- parameters

-- a depth comparison is of a depth texture, whose type is four bytes short of the longest
compare_le : (v : Variant) (i : ℕ) → flag (is_compare (lookup_of v i)) ≤ flag (bit v.depth_sampler i)
unfolding lookup_of flag
compare_le v i = go (bit v.fetch4 i) (bit v.depth_fetch i) (bit v.depth_sampler i) _ _ _
  where
    go : (f d c x y z : Bool) → flag (is_compare (cond f (Fetch4 x) (cond d (DepthFetch y) (cond c DepthCompare (Plain z))))) ≤ flag c
    go true d c x y z = omega arith
    go false true c x y z = omega arith
    go false false true x y z = omega arith
    go false false false x y z = omega arith

type_le : (v : Variant) (i : ℕ) → size (type_text (texture_type_of v i)) + 4 * flag (bit v.depth_sampler i) ≤ 18
unfolding texture_type_of flag
type_le v i = go (bit v.depth_sampler i) (bit v.volume i) (bit v.cube i)
  where
    go : (d e f : Bool) → size (type_text (cond d Depth (cond e Volume (cond f Cube Flat)))) + 4 * flag d ≤ 18
    go true e f = omega arith
    go false true f = omega arith
    go false false true = omega arith
    go false false false = omega arith

pub parameters_le : (v : Variant) (i : ℕ) → size (texture_parameter v i) + size (sampler_parameter i) + 4 * flag (is_compare (lookup_of v i)) ≤ 76
unfolding texture_parameter sampler_parameter texture_name sampler_name
parameters_le v i = sum _ (flag (is_compare (lookup_of v i))) (flag (bit v.depth_sampler i)) (type_le v i) (compare_le v i)
  where
    sum : (t c d : ℕ) → t + 4 * d ≤ 18 → c ≤ d → 6 + (t + 18) + 34 + 4 * c ≤ 76
    sum t c d h k = omega arith

pub parameters_low : (v : Variant) (i : ℕ) → 9 ≤ size (texture_parameter v i) + size (sampler_parameter i)
unfolding sampler_parameter sampler_name
parameters_low v i = omega arith
