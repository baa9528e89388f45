-- Lookups: the texel of a stage read from its texture, at its own coordinate or at one that a bump stage displaces.
use Rattle.std.specs.Prelude.{ℕ, ◌+◌, ◌*◌, Bool, true, false, not, ◌&&◌, ◌||◌, cond, [], ◌∷◌, Option, Some, None}
use Rattle.text.specs.Text.{Text, lit, ◌⊕◌, pick, when, digit, decimal}
use Rattle.text.specs.Format.{format, ◌≔◌}
use Rattle.combiners.specs.Codes.{bit}
use Rattle.combiners.specs.Arguments.{texel_name}
use Rattle.cascade.specs.Keys.{textured, bump}
use Rattle.cascade.specs.Reading.{luminance}
use Rattle.values.specs.declared.Stage.{Stage}
use Rattle.values.specs.declared.Variant.{Variant}
use Rattle.shader.specs.declared.Coordinate.{Coordinate}
use Rattle.shader.specs.declared.Coordinate.TheVariants.{Interpolated, Divided, Displaced, Projected}
use Rattle.shader.specs.declared.Lookup.{Lookup}
use Rattle.shader.specs.declared.Lookup.TheVariants.{Fetch4, DepthFetch, DepthCompare, Plain}
use Rattle.shader.specs.declared.TextureType.{TextureType}
use Rattle.shader.specs.declared.TextureType.TheVariants.{Depth, Volume, Cube, Flat}
use Rattle.shader.specs.declared.BumpStage.{BumpStage}

-- 01: "First that applies, by stage bit: fetch4, depth fetch, depth compare, plain." With fetch4, alpha is gathered only without the depth bit;
-- a plain lookup of a volume or a cube takes three coordinates.
unfoldable pub lookup_of : Variant → ℕ → Lookup
lookup_of v i =
    cond (bit v.fetch4 i) (Fetch4 (not (bit v.depth_sampler i) && bit v.fetch4_alpha i))
    (cond (bit v.depth_fetch i) (DepthFetch (bit v.raw_depth_red i))
    (cond (bit v.depth_sampler i) DepthCompare (Plain (bit v.volume i || bit v.cube i))))

-- 01: "Texture type: depth, volume, cube, plain, in that order."
unfoldable pub texture_type_of : Variant → ℕ → TextureType
texture_type_of v i = cond (bit v.depth_sampler i) Depth (cond (bit v.volume i) Volume (cond (bit v.cube i) Cube Flat))

abbrev pub type_text : TextureType → Text
type_text Depth = lit "depth2d<float>"
type_text Volume = lit "texture3d<float>"
type_text Cube = lit "texturecube<float>"
type_text Flat = lit "texture2d<float>"

-- the texture and the sampler of stage i
unfoldable pub texture_name : ℕ → Text
texture_name i = format "s{i}" (("i" ≔ digit i) ∷ [])

unfoldable pub sampler_name : ℕ → Text
sampler_name i = format "samp{i}" (("i" ≔ digit i) ∷ [])

-- a coordinate of stage i
unfoldable pub coordinate_text : ℕ → Coordinate → Text
coordinate_text i Interpolated = format "in.texcoord{i}" (("i" ≔ digit i) ∷ [])
coordinate_text i Divided = format "pc{i}" (("i" ≔ digit i) ∷ [])
coordinate_text i Displaced = format "bc{i}" (("i" ≔ digit i) ∷ [])
coordinate_text i Projected = format "proj{i}" (("i" ≔ digit i) ∷ [])

-- the rows of the level-of-detail table and of the bump environment
unfoldable pub lod_row : ℕ → Text
lod_row i = format "lod_bias[{i}]" (("i" ≔ digit i) ∷ [])

unfoldable pub bump_row : ℕ → Text
bump_row k = format "bump_env[{k}]" (("k" ≔ decimal k) ∷ [])

unfoldable pub level_text : Bool → ℕ → Text
level_text lod i = pick lod (format "level(max({row}.w, 0.0))" (("row" ≔ lod_row i) ∷ [])) (lit "level(0)")

-- a coordinate divided by its w
unfoldable pub quotient_text : Bool → Text → Text
quotient_text three tc = format "{tc}.{xyz} / {tc}.w" (("tc" ≔ tc) ∷ ("xyz" ≔ pick three (lit "xyz") (lit "xy")) ∷ [])

-- where to read: two coordinates or three, divided if the stage is projected
unfoldable pub uv_text : Bool → Bool → Text → Text
uv_text projected three tc =
    pick projected
    (format "({tc}.w != 0.0 ? {quotient} : {zero})"
    (("tc" ≔ tc) ∷ ("quotient" ≔ quotient_text three tc) ∷ ("zero" ≔ pick three (lit "float3(0.0)") (lit "float2(0.0)")) ∷ []))
    (format "{tc}.{xyz}" (("tc" ≔ tc) ∷ ("xyz" ≔ pick three (lit "xyz") (lit "xy")) ∷ []))

-- half a texel of the texture
unfoldable pub half_texel_text : ℕ → Text
half_texel_text i = format "0.5 / float2({s}.get_width(), {s}.get_height())" (("s" ≔ texture_name i) ∷ [])

-- what a lookup reads
unfoldable pub gather_text : Bool → Bool → ℕ → Text → Text
gather_text alpha projected i tc =
    format "{s}.gather({samp}, ({uv}) + {half}{component}).zxyw"
    (("s" ≔ texture_name i) ∷ ("samp" ≔ sampler_name i) ∷ ("uv" ≔ uv_text projected false tc) ∷ ("half" ≔ half_texel_text i)
    ∷ ("component" ≔ when alpha (lit ", int2(0), component::w")) ∷ [])

unfoldable pub depth_text : Bool → Bool → ℕ → Text → Text
depth_text lod projected i tc =
    format "{s}.sample({samp}, {uv}, {level})"
    (("s" ≔ texture_name i) ∷ ("samp" ≔ sampler_name i) ∷ ("uv" ≔ uv_text projected false tc) ∷ ("level" ≔ level_text lod i) ∷ [])

unfoldable pub compare_text : Bool → ℕ → Text → Text
compare_text lod i tc =
    format "float4({s}.sample_compare({samp}, {at}, {level}))"
    (("s" ≔ texture_name i) ∷ ("samp" ≔ sampler_name i) ∷ ("at" ≔ format "{tc}.xy, saturate({tc}.z)" (("tc" ≔ tc) ∷ [])) ∷ ("level" ≔ level_text lod i) ∷ [])

unfoldable pub plain_text : Bool → Bool → Bool → ℕ → Text → Text
plain_text lod three projected i tc =
    format "{s}.sample({samp}, {uv}{bias})"
    (("s" ≔ texture_name i) ∷ ("samp" ≔ sampler_name i) ∷ ("uv" ≔ uv_text projected three tc)
    ∷ ("bias" ≔ when lod (format ", bias({row}.x)" (("row" ≔ lod_row i) ∷ []))) ∷ [])

-- the line that declares a texel
unfoldable pub texel_line : ℕ → Text → Text
texel_line i sample = format "    float4 {t} = {sample};\n" (("t" ≔ texel_name i) ∷ ("sample" ≔ sample) ∷ [])

-- the line that declares a projected coordinate
unfoldable pub projected_line : ℕ → Text → Text
projected_line i tc =
    format "    float3 {proj} = {tc}.w != 0.0 ? {quotient} : float3(0.0);\n"
    (("proj" ≔ coordinate_text i Projected) ∷ ("tc" ≔ tc) ∷ ("quotient" ≔ quotient_text true tc) ∷ [])

-- the lookup of stage i at a coordinate
unfoldable pub lookup_text : Lookup → Bool → Bool → ℕ → Coordinate → Text
lookup_text (Fetch4 alpha) lod projected i c = texel_line i (gather_text alpha projected i (coordinate_text i c))
lookup_text (DepthFetch red) lod projected i c =
    texel_line i
    (format "float4({depth}{fill})"
    (("depth" ≔ depth_text lod projected i (coordinate_text i c)) ∷ ("fill" ≔ when red (lit ", 0.0, 0.0, 1.0")) ∷ []))
lookup_text DepthCompare lod projected i c =
    pick projected (projected_line i (coordinate_text i c) ⊕ texel_line i (compare_text lod i (coordinate_text i Projected)))
    (texel_line i (compare_text lod i (coordinate_text i c)))
lookup_text (Plain three) lod projected i c = texel_line i (plain_text lod three projected i (coordinate_text i c))

-- the stage before, as its lookup's place matters to the next: a bump stage displaces and scales
unfoldable pub before_of : ℕ → Stage → Option BumpStage
before_of i s = cond (bump s) (Some (record { stage = i; textured = textured s; luminance = luminance s })) None

-- the line that declares a divided coordinate
unfoldable pub divided_line : ℕ → Text
divided_line i =
    format "    float4 {pc} = {tc}.w != 0.0 ? float4({quotient}, 1.0) : float4(0.0, 0.0, 0.0, 1.0);\n"
    (("pc" ≔ coordinate_text i Divided) ∷ ("tc" ≔ coordinate_text i Interpolated) ∷ ("quotient" ≔ quotient_text true (coordinate_text i Interpolated)) ∷ [])

-- one coordinate of the displacement by stage n: two entries of its matrix by its texel
unfoldable pub offset_text : ℕ → Text → Text → Text
offset_text n first second =
    format "{matrix}{first}{t}.x + {matrix}{second}{t}.y" (("matrix" ≔ bump_row (2 * n)) ∷ ("first" ≔ first) ∷ ("t" ≔ texel_name n) ∷ ("second" ≔ second) ∷ [])

-- a coordinate moved by stage n's texel
unfoldable pub moved_text : ℕ → Text → Text
moved_text n base =
    format "{base}.xy + float2({du}, {dv})"
    (("base" ≔ base) ∷ ("du" ≔ offset_text n (lit ".x * ") (lit ".z * ")) ∷ ("dv" ≔ offset_text n (lit ".y * ") (lit ".w * ")) ∷ [])

-- the line that declares the coordinate of stage i displaced by stage n
unfoldable pub displaced_line : ℕ → ℕ → Coordinate → Text
displaced_line i n base =
    format "    float4 {bc} = float4({moved}, {base}.zw);\n"
    (("bc" ≔ coordinate_text i Displaced) ∷ ("moved" ≔ moved_text n (coordinate_text i base)) ∷ ("base" ≔ coordinate_text i base) ∷ [])

-- 01: "A coordinate displaced by a textured bump stage is already divided."
unfoldable pub displacement_text : Bool → ℕ → ℕ → Text
displacement_text projected i n = pick projected (divided_line i ⊕ displaced_line i n Divided) (displaced_line i n Interpolated)

-- the line that scales the texel of stage i by stage n's luminance
unfoldable pub luminance_line : Bool → ℕ → ℕ → Text
luminance_line tex i n =
    format "    {t} *= saturate({scaled}{light}.y);\n"
    (("t" ≔ texel_name i) ∷ ("light" ≔ bump_row (2 * n + 1))
    ∷ ("scaled" ≔ when tex (format "{l}.z * {light}.x + " (("l" ≔ texel_name n) ∷ ("light" ≔ bump_row (2 * n + 1)) ∷ []))) ∷ [])

-- everything that the lookup of stage i writes
unfoldable pub sample_text : Option BumpStage → Lookup → Bool → Bool → ℕ → Text
sample_text None f lod projected i = lookup_text f lod projected i Interpolated
sample_text (Some b) f lod projected i =
    pick b.textured (displacement_text projected i b.stage ⊕ lookup_text f lod false i Displaced) (lookup_text f lod projected i Interpolated)
    ⊕ when b.luminance (luminance_line b.textured i b.stage)
