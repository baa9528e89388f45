-- The whole text: what stands before the function, its signature, its locals and stages, its output.
use Rattle.std.specs.Prelude.{ℕ, suc, Bool, Option, Some, None, List, [], ◌∷◌}
use Rattle.text.specs.Text.{Text, raw, lit, none, ◌⊕◌, pick, when, digit}
use Rattle.text.specs.Format.{format, ◌≔◌}
use Rattle.combiners.specs.Codes.{bit}
use Rattle.cascade.specs.Keys.{textured, to_temp, active}
use Rattle.cascade.specs.Stages.{decode, line_text}
use Rattle.cascade.specs.Reading.{live, lined, marked, reads_bump_env}
use Rattle.values.specs.Entries.{name_of}
use Rattle.values.specs.declared.Stage.{Stage}
use Rattle.values.specs.declared.Key.{Key}
use Rattle.cascade.specs.declared.Expressions.{Expressions}
use Rattle.shader.specs.Lookups.{lookup_of, texture_type_of, type_text, texture_name, sampler_name, before_of, sample_text}
use Rattle.shader.specs.Output.{flat_shade, srgb_write, sample_mask, point_sprite, lod_bias, fogged, tested, output_text}
use Rattle.values.specs.declared.Variant.{Variant}
use Rattle.values.specs.declared.Entry.{Entry}
use Rattle.shader.specs.declared.BumpStage.{BumpStage}

unfoldable pub varyings_text : Bool → Text
varyings_text flat =
    lit "#include <metal_stdlib>\nusing namespace metal;\n\n"
    ⊕ lit "struct Varyings {\n    float4 position [[position, invariant]];\n    float4 position1;\n"
    ⊕ lit "    float4 texcoord0;\n    float4 texcoord1;\n    float4 texcoord2;\n    float4 texcoord3;\n"
    ⊕ lit "    float4 texcoord4;\n    float4 texcoord5;\n    float4 texcoord6;\n    float4 texcoord7;\n"
    ⊕ lit "    float4 texcoord8;\n    float4 texcoord9;\n    float4 texcoord10;\n    float4 texcoord11;\n"
    ⊕ lit "    float4 texcoord12;\n    float4 texcoord13;\n    float4 texcoord14;\n    float4 texcoord15;\n"
    ⊕ pick flat (lit "    float4 color0 [[flat]];\n    float4 color1 [[flat]];\n") (lit "    float4 color0;\n    float4 color1;\n")
    ⊕ lit "    float4 fog;\n    float fog_z [[center_no_perspective]];\n    float point_size [[point_size]];\n};\n\n"

unfoldable pub srgb_helper_text : Bool → Text
srgb_helper_text on =
    when on
    (lit "static inline float3 mtld3d_linear_to_srgb(float3 c) {\n    float3 lo = 12.92 * c;\n"
    ⊕ lit "    float3 hi = 1.055 * pow(max(c, float3(0.0)), 1.0 / 2.4) - 0.055;\n"
    ⊕ lit "    return select(hi, lo, c <= 0.0031308);\n}\n\n")

unfoldable pub fragment_text : Bool → Text
fragment_text masked =
    pick masked (lit "struct FfPsOut {\n    float4 oC0 [[color(0)]];\n    uint oMask [[sample_mask]];\n};\n\nfragment FfPsOut ") (lit "fragment float4 ")

-- everything before the entry
unfoldable pub front_text : Variant → Text
front_text v = varyings_text (flat_shade v) ⊕ srgb_helper_text (srgb_write v) ⊕ fragment_text (sample_mask v)

-- the parameters; 01: "`PS_LOD_BIAS_SLOT` is 11 here"
unfoldable pub stage_in_text : Bool → Text
stage_in_text sprite =
    pick sprite (lit "(\n    Varyings in_stage [[stage_in]],\n    float2 point_coord [[point_coord]],\n") (lit "(\n    Varyings in [[stage_in]],\n")

unfoldable pub texture_parameter : Variant → ℕ → Text
texture_parameter v i =
    format ",\n    {type} {s} [[texture({i})]]" (("type" ≔ type_text (texture_type_of v i)) ∷ ("s" ≔ texture_name i) ∷ ("i" ≔ digit i) ∷ [])

unfoldable pub sampler_parameter : ℕ → Text
sampler_parameter i = format ",\n    sampler {samp} [[sampler({i})]]" (("samp" ≔ sampler_name i) ∷ ("i" ≔ digit i) ∷ [])

-- a texture and a sampler for each stage of the mask; i is the first stage's number
unfoldable pub samplers_text : Variant → ℕ → List Stage → Text
samplers_text v i [] = none
samplers_text v i (s ∷ r) = when (textured s) (texture_parameter v i ⊕ sampler_parameter i) ⊕ samplers_text v (suc i) r

unfoldable pub parameters_text : Variant → List Stage → Text
parameters_text v ss =
    stage_in_text (point_sprite v)
    ⊕ lit "    constant float4 *ps_c [[buffer(15)]]"
    ⊕ when (tested v) (lit ",\n    constant float &alpha_ref [[buffer(14)]]")
    ⊕ when (fogged v) (lit ",\n    constant float4 *fog_data [[buffer(13)]]")
    ⊕ when (reads_bump_env (live ss) ss) (lit ",\n    constant float4 *bump_env [[buffer(12)]]")
    ⊕ when (lod_bias v) (lit ",\n    constant float4 *lod_bias [[buffer(11)]]")
    ⊕ samplers_text v 0 ss
    ⊕ lit "\n) {\n"

-- a point sprite's own coordinates
unfoldable pub sprite_line : ℕ → Text
sprite_line i = format "    in.texcoord{i} = float4(point_coord.x, point_coord.y, 0.0, 0.0);\n" (("i" ≔ digit i) ∷ [])

unfoldable pub sprite_text : Bool → Text
sprite_text sprite =
    when sprite
    (lit "    Varyings in = in_stage;\n"
    ⊕ sprite_line 0
    ⊕ sprite_line 1
    ⊕ sprite_line 2
    ⊕ sprite_line 3
    ⊕ sprite_line 4
    ⊕ sprite_line 5
    ⊕ sprite_line 6
    ⊕ sprite_line 7)

-- the line of stage i, where it has one
unfoldable pub stage_line : Bool → ℕ → Stage → Option Expressions → Text
stage_line alive i s None = none
stage_line alive i s (Some e) = when (lined alive s) (line_text i (textured s) (to_temp s) e.colour e.alpha)

-- the lookups and lines of these stages; i is the first one's number, and before the bump stage before it, if that is one
unfoldable pub stages_text : Variant → ℕ → Bool → Option BumpStage → ℕ → List Stage → Text
stages_text v projected alive before i [] = none
stages_text v projected alive before i (s ∷ r) =
    when (marked alive (s ∷ r)) (sample_text before (lookup_of v i) (lod_bias v) (bit projected i) i)
    ⊕ stage_line alive i s (decode s)
    ⊕ stages_text v projected alive (before_of i s) (suc i) r

unfoldable pub locals_text : Bool → Text
locals_text alive = lit "    float4 current = in.color0;\n" ⊕ when alive (lit "    float4 temp = float4(0.0);\n")

-- everything from the `(` behind the entry on
unfoldable pub body_text : Key → Variant → List Stage → Text
body_text k v ss =
    parameters_text v ss
    ⊕ sprite_text (point_sprite v)
    ⊕ locals_text (live ss)
    ⊕ stages_text v k.projected (live ss) None 0 ss
    ⊕ output_text k.specular_add v

-- the text of a key with the stages that take effect
unfoldable pub whole_text : Key → Variant → Entry → Text
whole_text k v e = front_text v ⊕ raw (name_of e) ⊕ body_text k v (active k.stages)
