-- The worked stages of 01, Z1 to Z9, W1 to W6 for 02's warnings by stage, and N1 to N11 for its stages of three operands: for each a key, a variant and
-- what is named of the text and the result.
-- 01: "Unless said otherwise: stage 0, no texture, result CURRENT, alpha op 1, unnamed arguments 0, every other stage op 1."
use Rattle.std.specs.Prelude.{ℕ, zero, suc, Bool, true, false, not, ◌&&◌, ◌||◌, cond, List, [], ◌∷◌, ◌++◌, eqb, replicate}
use Prim.Native.Char.{code}
use Prim.Native.String.{String}
use Rattle.text.specs.Text.{bytes}
use Rattle.text.specs.Format.{same}
use Rattle.values.specs.Kinds.{default_arg0}
use Rattle.values.specs.declared.Combiner.{Combiner}
use Rattle.values.specs.declared.Stage.{Stage}
use Rattle.values.specs.declared.Key.{Key}
use Rattle.values.specs.declared.Variant.{Variant}
use Rattle.values.specs.declared.Entry.{Entry}
use Rattle.values.specs.declared.Emitted.{Emitted}
use Rattle.shader.specs.Names.{begins}
use Rattle.shader.specs.Results.{text_of, emitted_of}

-- what is named: the whole text by its lines, a part of it, a part that it lacks, or a number of the result
pub data Named : Type 0 where
  whole : List String → Named
  part lacks : String → Named
  mask rows lookups : ℕ → Named
  warnings : ℕ → ℕ → ℕ → Bool → Named

pub record Worked : Type 0 where
  pub name : String
  pub stages : List Stage
  pub alpha_func : ℕ
  pub wide : Bool
  pub named : List Named

-- an op with its arguments 1, 2 and 0
abbrev pub of_three : ℕ → ℕ → ℕ → ℕ → Combiner
of_three op a b z = record { op = op; arg1 = a; arg2 = b; arg0 = z }

abbrev pub of_two : ℕ → ℕ → ℕ → Combiner
of_two op a b = of_three op a b default_arg0

-- a stage by its colour op, its arguments and its flags
abbrev pub stage : ℕ → ℕ → ℕ → ℕ → Stage
stage op a b flags = record { colour = of_two op a b; alpha = of_two 1 0 0; flags = flags }

-- a stage by its colour op, its arguments 1, 2 and 0, and its flags
abbrev pub stage_of_three : ℕ → ℕ → ℕ → ℕ → ℕ → Stage
stage_of_three op a b z flags = record { colour = of_three op a b z; alpha = of_two 1 0 0; flags = flags }

-- a stage whose colour is `in.color0`, by its alpha op and arguments 1, 2 and 0
abbrev pub alpha_of_three : ℕ → ℕ → ℕ → ℕ → Stage
alpha_of_three op a b z = record { colour = of_two 2 0 0; alpha = of_three op a b z; flags = 0 }

-- a stage whose bytes are 0 but for its colour op
abbrev pub bare : ℕ → Stage
bare op = record { colour = of_two op 0 0; alpha = of_two 0 0 0; flags = 0 }

-- n stages, the first of them as given and the others alike
abbrev pub padded : ℕ → Stage → List Stage → List Stage
padded zero s ss = []
padded (suc n) s [] = s ∷ padded n s []
padded (suc n) s (t ∷ ss) = t ∷ padded n s ss

-- a line of the table, by the stages in front of those with op 1 and by the alpha function
abbrev pub line : String → List Stage → ℕ → List Named → Worked
line name ss f named = record { name = name; stages = padded 8 (stage 1 0 0 0) ss; alpha_func = f; wide = false; named = named }

-- a line for a key of kind 6, by its first stage
abbrev pub wide_line : String → Stage → List Named → Worked
wide_line name s named = record { name = name; stages = padded 8 (stage 1 0 0 0) (s ∷ []); alpha_func = 0; wide = true; named = named }

abbrev pub z1_lines : List String
z1_lines =
    "#include <metal_stdlib>"
    ∷ "using namespace metal;"
    ∷ ""
    ∷ "struct Varyings {"
    ∷ "    float4 position [[position, invariant]];"
    ∷ "    float4 position1;"
    ∷ "    float4 texcoord0;"
    ∷ "    float4 texcoord1;"
    ∷ "    float4 texcoord2;"
    ∷ "    float4 texcoord3;"
    ∷ "    float4 texcoord4;"
    ∷ "    float4 texcoord5;"
    ∷ "    float4 texcoord6;"
    ∷ "    float4 texcoord7;"
    ∷ "    float4 texcoord8;"
    ∷ "    float4 texcoord9;"
    ∷ "    float4 texcoord10;"
    ∷ "    float4 texcoord11;"
    ∷ "    float4 texcoord12;"
    ∷ "    float4 texcoord13;"
    ∷ "    float4 texcoord14;"
    ∷ "    float4 texcoord15;"
    ∷ "    float4 color0;"
    ∷ "    float4 color1;"
    ∷ "    float4 fog;"
    ∷ "    float fog_z [[center_no_perspective]];"
    ∷ "    float point_size [[point_size]];"
    ∷ "};"
    ∷ ""
    ∷ "fragment float4 m("
    ∷ "    Varyings in [[stage_in]],"
    ∷ "    constant float4 *ps_c [[buffer(15)]]"
    ∷ ") {"
    ∷ "    float4 current = in.color0;"
    ∷ "    float4 oC0 = current;"
    ∷ "    return oC0;"
    ∷ "}"
    ∷ []

-- 01: "a key with stage 0 op 1 and all else 0"
abbrev pub z1 : Worked
z1 =
    record {
      name = "Z1";
      stages = padded 8 (bare 0) (bare 1 ∷ []);
      alpha_func = 0;
      wide = false;
      named = whole z1_lines ∷ mask 0 ∷ rows 0 ∷ lookups 0 ∷ warnings 0 0 0 false ∷ [];
    }

abbrev pub table : List Worked
table =
    z1
    ∷ line "Z2" (stage 4 2 0 1 ∷ []) 0 (part "    current = float4(((t0 * in.color0)).rgb, (current).a);\n" ∷ lookups 1 ∷ [])
    ∷ line "Z3, op 2" (stage 2 0 2 0 ∷ []) 0 (part "    current = float4((in.color0).rgb, (current).a);\n" ∷ [])
    ∷ line "Z3, op 4" (stage 4 0 2 0 ∷ []) 0 (part "    current = float4((current).rgb, (current).a);\n" ∷ [])
    ∷ line "Z4" (stage 2 0 0 0 ∷ stage 2 0 0 0 ∷ stage 2 0x36 0 0 ∷ []) 0
    (part "    current = float4(((1.0 - ps_c[3].aaaa)).rgb, (current).a);\n" ∷ rows 4 ∷ [])
    ∷ line "Z5, op 17" (stage 17 0 5 0 ∷ []) 0 (lacks "temp" ∷ [])
    ∷ line "Z5, op 4" (stage 4 0 5 0 ∷ []) 0 (part "    float4 temp = float4(0.0);\n" ∷ [])
    ∷ line "Z6, argument 2" (stage 22 0 0 1 ∷ stage 2 2 0 1 ∷ []) 0 (lookups 2 ∷ [])
    ∷ line "Z6, argument 0" (stage 22 0 0 1 ∷ stage 2 0 0 1 ∷ []) 0 (lookups 0 ∷ mask 3 ∷ [])
    ∷ line "Z7" (stage 23 0 1 0 ∷ stage 2 2 0 1 ∷ []) 0 (part "    t1 *= saturate(bump_env[1].y);\n" ∷ [])
    ∷ line "Z8, function 8" [] 8 (lacks "discard_fragment" ∷ [])
    ∷ line "Z8, function 9" [] 9 (part "    if (!(true)) discard_fragment();\n" ∷ [])
    ∷ line "Z9" (stage 13 0 4 0 ∷ []) 0 (part "    current = float4((in.color1).rgb, (current).a);\n" ∷ [])
    ∷ line "W1, op of stage 1" (stage 2 0 0 0 ∷ stage 17 0 0 0 ∷ []) 0 (warnings 2 0 0 false ∷ [])
    ∷ line "W2, argument that op 2 discards" (stage 2 0 0x4f 0 ∷ []) 0 (warnings 0 1 1 false ∷ [])
    ∷ line "W3, dead TEMP" (stage 2 0 0 0 ∷ stage 17 0x47 0 2 ∷ []) 0 (warnings 2 2 2 false ∷ [])
    ∷ line "W4, fallback" (stage 17 2 0x4f 0 ∷ []) 0 (warnings 0 0 0 false ∷ [])
    ∷ line "W5, bump stage" (stage 22 0x4f 0x4f 1 ∷ []) 0 (warnings 0 0 0 false ∷ [])
    ∷ line "W6, function 9" [] 9 (warnings 0 0 0 true ∷ [])
    ∷ wide_line "N1, LERP by the texel" (stage_of_three 26 0 1 2 1)
    (part "    current = float4(((t0 * in.color0 + (1.0 - t0) * current)).rgb, (current).a);\n" ∷ mask 1 ∷ lookups 1 ∷ warnings 0 0 0 false ∷ [])
    ∷ wide_line "N2, MULTIPLYADD to a constant" (stage_of_three 25 0 4 6 0)
    (part "    current = float4((saturate(ps_c[1] + in.color0 * in.color1)).rgb, (current).a);\n" ∷ rows 2 ∷ warnings 0 0 0 false ∷ [])
    ∷ wide_line "N3, LERP by what TEMP leaves of 1" (stage_of_three 26 0 1 0x15 0)
    (part "    float4 temp = float4(0.0);\n" ∷ part "((1.0 - temp) * in.color0 + (1.0 - (1.0 - temp)) * current)" ∷ [])
    ∷ wide_line "N4, fallback by argument 0" (stage_of_three 26 0 4 2 0)
    (part "    current = float4((current).rgb, (current).a);\n" ∷ rows 0 ∷ lookups 0 ∷ warnings 0 0 0 false ∷ [])
    ∷ wide_line "N5, the factor" (stage_of_three 25 0 4 3 0) (rows 1 ∷ [])
    ∷ wide_line "N6, the factor in a fallback" (stage_of_three 26 2 4 3 0) (rows 1 ∷ [])
    ∷ wide_line "N7, alpha" (alpha_of_three 25 0 1 6)
    (part "    current = float4((in.color0).rgb, (saturate(ps_c[1] + in.color0 * current)).a);\n" ∷ rows 2 ∷ [])
    ∷ wide_line "N8, warnings of argument 0" (stage_of_three 25 0 4 0x4f 0) (warnings 0 1 1 false ∷ [])
    ∷ wide_line "N9, another op" (stage_of_three 4 0 4 0x46 0) (rows 0 ∷ warnings 0 0 0 false ∷ [])
    ∷ wide_line "N10, another op without a text" (stage_of_three 17 0 5 3 0) (rows 0 ∷ lacks "temp" ∷ warnings 1 0 0 false ∷ [])
    ∷ line "N11, kind 1" (stage_of_three 26 0 5 3 0 ∷ []) 0
    (part "    current = float4((in.color0).rgb, (current).a);\n" ∷ lacks "temp" ∷ rows 0 ∷ warnings 1 0 0 false ∷ [])
    ∷ []

abbrev pub worked_key : Worked → Key
worked_key w = record { stages = w.stages; specular_add = false; projected = 0; wide = w.wide }

abbrev pub worked_variant : Worked → Variant
worked_variant w =
    record {
      alpha_func = w.alpha_func;
      fog_mode = 0;
      fog_table_mode = 0;
      depth_sampler = 0;
      depth_fetch = 0;
      fetch4 = 0;
      fetch4_alpha = 0;
      raw_depth_red = 0;
      volume = 0;
      cube = 0;
      sample_mask = 0;
      flags = 0;
    }

-- the entry `m`
abbrev pub entry_m : Entry
entry_m = record { len = 1; name = bytes "m" ++ replicate 31 0 }

-- the bytes of lines, each with its newline
abbrev pub lines_of : List String → List ℕ
lines_of [] = []
lines_of (s ∷ r) = bytes s ++ (code "\n" ∷ lines_of r)

-- the text has the part somewhere
abbrev pub contains : List ℕ → List ℕ → Bool
contains p [] = begins p []
contains p (y ∷ t) = begins p (y ∷ t) || contains p t

-- the masks of ops, selectors and modifiers, and whether the alpha function warns
abbrev pub warned : ℕ → ℕ → ℕ → Bool → Emitted → Bool
warned o s m a e =
    eqb e.warnings.op o
    && (eqb e.warnings.selector s && (eqb e.warnings.modifier m && cond a e.alpha_warning (not e.alpha_warning)))

abbrev pub holds : Worked → Named → Bool
holds w (whole ls) = same (lines_of ls) (text_of (worked_key w) (worked_variant w) entry_m)
holds w (part s) = contains (bytes s) (text_of (worked_key w) (worked_variant w) entry_m)
holds w (lacks s) = not (contains (bytes s) (text_of (worked_key w) (worked_variant w) entry_m))
holds w (mask n) = eqb (emitted_of (worked_key w) (worked_variant w) entry_m).mask n
holds w (rows n) = eqb (emitted_of (worked_key w) (worked_variant w) entry_m).rows n
holds w (lookups n) = eqb (emitted_of (worked_key w) (worked_variant w) entry_m).lookups n
holds w (warnings o s m a) = warned o s m a (emitted_of (worked_key w) (worked_variant w) entry_m)

abbrev pub all_hold : Worked → List Named → Bool
all_hold w [] = true
all_hold w (n ∷ r) = holds w n && all_hold w r

abbrev pub table_holds : List Worked → Bool
table_holds [] = true
table_holds (w ∷ r) = all_hold w w.named && table_holds r
