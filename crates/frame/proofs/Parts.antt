-- Parts of the text, put together as they are written: what is fixed in one piece, what a test chooses in one of two.
use Prim.Native.Nat.{ℕ}
use mathlib.Core.Bool.{Bool, true, false}
use mathlib.Core.Path.{◌≡◌, refl, ap, ◌∙◌}
use mathlib.Core.List.{List}
use Rattle.text.specs.Text.{Text, bytes, raw, lit, pick, flat, ◌⊕◌}
use Rattle.text.specs.Marks.{numbered}
use Rattle.text.specs.Buffer.{Wrote}
use Rattle.text.proofs.Laws.{◌⨾◌}
use Rattle.shader.specs.Lookups.{texture_name, sampler_name, type_text, texture_type_of}
use Rattle.shader.specs.Output.{specular_text}
use Rattle.shader.specs.Whole.{varyings_text, stage_in_text, texture_parameter, sampler_parameter, locals_text}
use Rattle.values.specs.declared.Variant.{Variant}
use Rattle.shader.specs.declared.TextureType.{TextureType}

-- a text of what a function answered, and a text behind it
pub answered : {A : Type 0} (t : A → Text) (x y : A) (u : Text) (l l₁ l₂ : List ℕ) (a a₁ a₂ : ℕ)
    → y ≡ x → Wrote l a l₁ a₁ (t y) → Wrote l₁ a₁ l₂ a₂ u → Wrote l a l₂ a₂ (t x ⊕ u)
answered t x y u l l₁ l₂ a a₁ a₂ e w v = rw (← e) (w ⨾ v)

-- a text by a test whose answer is known
pub picked : {l l' : List ℕ} {a a' : ℕ} {b c : Bool} {s t : Text} → b ≡ c → Wrote l a l' a' (pick b s t) → Wrote l a l' a' (pick c s t)
picked e w = rw e at w

pub varyings : (b : Bool)
    → flat (raw (flat
    (lit "#include <metal_stdlib>\nusing namespace metal;\n\n"
    ⊕ lit "struct Varyings {\n    float4 position [[position, invariant]];\n    float4 position1;\n"
    ⊕ lit "    float4 texcoord0;\n    float4 texcoord1;\n    float4 texcoord2;\n    float4 texcoord3;\n"
    ⊕ lit "    float4 texcoord4;\n    float4 texcoord5;\n    float4 texcoord6;\n    float4 texcoord7;\n"
    ⊕ lit "    float4 texcoord8;\n    float4 texcoord9;\n    float4 texcoord10;\n    float4 texcoord11;\n"
    ⊕ lit "    float4 texcoord12;\n    float4 texcoord13;\n    float4 texcoord14;\n    float4 texcoord15;\n"))
    ⊕ pick b (lit "    float4 color0 [[flat]];\n    float4 color1 [[flat]];\n") (lit "    float4 color0;\n    float4 color1;\n")
    ⊕ lit "    float4 fog;\n    float fog_z [[center_no_perspective]];\n    float point_size [[point_size]];\n};\n\n")
    ≡ flat (varyings_text b)
unfolding varyings_text
varyings b = refl

pub begins : (b : Bool)
    → flat (pick b
    (lit "(\n    Varyings in_stage [[stage_in]],\n    float2 point_coord [[point_coord]],\n    constant float4 *ps_c [[buffer(15)]]")
    (lit "(\n    Varyings in [[stage_in]],\n    constant float4 *ps_c [[buffer(15)]]"))
    ≡ flat (stage_in_text b ⊕ lit "    constant float4 *ps_c [[buffer(15)]]")
unfolding stage_in_text
begins true = refl
begins false = refl

-- the parameters of a texture and its sampler
abbrev texture : ℕ → TextureType → Text
texture i t = lit ",\n    " ⊕ type_text t ⊕ numbered i (bytes " s# [[texture(#)]]")

abbrev sampler : ℕ → Text
sampler i = numbered i (bytes ",\n    sampler samp# [[sampler(#)]]")

pair_text : (v : Variant) (i : ℕ) → flat (texture i (texture_type_of v i) ⊕ sampler i) ≡ flat (texture_parameter v i ⊕ sampler_parameter i)
unfolding texture_parameter sampler_parameter texture_name sampler_name
pair_text v i = refl

pub paired : (v : Variant) (i : ℕ) (t : TextureType) → t ≡ texture_type_of v i
    → flat (texture i t ⊕ sampler i) ≡ flat (texture_parameter v i ⊕ sampler_parameter i)
paired v i t e = ap (λ (x : TextureType). flat (texture i x ⊕ sampler i)) e ∙ pair_text v i

pub declared : (b : Bool)
    → flat (locals_text b) ≡ flat (pick b (lit "    float4 current = in.color0;\n    float4 temp = float4(0.0);\n") (lit "    float4 current = in.color0;\n"))
unfolding locals_text
declared true = refl
declared false = refl

pub highlit : (b : Bool)
    → flat (pick b (lit "    current = float4(saturate(current.rgb + in.color1.rgb), current.a);\n    float4 oC0 = current;\n")
    (lit "    float4 oC0 = current;\n"))
    ≡ flat (specular_text b ⊕ lit "    float4 oC0 = current;\n")
unfolding specular_text
highlit true = refl
highlit false = refl
