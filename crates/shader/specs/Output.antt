-- Specular, fog, alpha test, sRGB and the return.
-- 01: "Order: specular, fog, alpha test, sRGB, return."
use Rattle.std.specs.Prelude.{ℕ, Bool, not, ◌&&◌, ◌||◌, [], ◌∷◌, eqb}
use Rattle.text.specs.Text.{Text, lit, ◌⊕◌, pick, when, decimal}
use Rattle.text.specs.Format.{format, ◌≔◌}
use Rattle.combiners.specs.Codes.{bit, always}
use Rattle.values.specs.declared.Variant.{Variant}

-- 01: "flags from bit 0: FLAT_SHADE, SRGB_WRITE, SAMPLE_MASK, POINT_SPRITE, LOD_BIAS, FOG_SOURCE_W"
abbrev pub flat_shade : Variant → Bool
flat_shade v = bit v.flags 0

abbrev pub srgb_write : Variant → Bool
srgb_write v = bit v.flags 1

abbrev pub sample_mask : Variant → Bool
sample_mask v = bit v.flags 2

abbrev pub point_sprite : Variant → Bool
point_sprite v = bit v.flags 3

abbrev pub lod_bias : Variant → Bool
lod_bias v = bit v.flags 4

abbrev pub fog_source_w : Variant → Bool
fog_source_w v = bit v.flags 5

abbrev pub fogged : Variant → Bool
fogged v = not (eqb v.fog_mode 0) || not (eqb v.fog_table_mode 0)

-- 01: "Alpha function 0 and 8 write no test"
abbrev pub tested : Variant → Bool
tested v = not (eqb v.alpha_func 0) && not (eqb v.alpha_func always)

unfoldable pub specular_text : Bool → Text
specular_text on = when on (lit "    current = float4(saturate(current.rgb + in.color1.rgb), current.a);\n")

unfoldable pub fog_depth_text : Bool → Text
fog_depth_text w = pick w (lit "    float fog_c = 1.0 / in.position.w;\n") (lit "    float fog_c = in.fog_z + fog_data[1].w;\n")

-- 01: "Fog table mode 1 EXP, 2 EXP2, other nonzero linear"
unfoldable pub fog_factor_text : ℕ → Text
fog_factor_text mode =
    pick (eqb mode 1) (lit "    float fog_f = saturate(precise::exp(-fog_data[1].z * fog_c));\n")
    (pick (eqb mode 2)
    (lit "    float fog_dz = fog_data[1].z * fog_c;\n"
    ⊕ lit "    float fog_f = saturate(precise::exp(-fog_dz * fog_dz));\n")
    (lit "    float fog_range = fog_data[1].y - fog_data[1].x;\n"
    ⊕ lit "    float fog_f = fog_range == 0.0 ? (fog_c < fog_data[1].y ? 1.0 : 0.0) : saturate((fog_data[1].y - fog_c) / fog_range);\n"))

-- 01: "0 with a nonzero fog mode uses the vertex factor"
unfoldable pub fog_text : Variant → Text
fog_text v =
    pick (eqb v.fog_table_mode 0)
    (when (not (eqb v.fog_mode 0)) (lit "    oC0 = float4(mix(fog_data[0].rgb, oC0.rgb, saturate(in.fog.x)), oC0.a);\n"))
    (fog_depth_text (fog_source_w v)
    ⊕ fog_factor_text v.fog_table_mode
    ⊕ lit "    oC0 = float4(mix(fog_data[0].rgb, oC0.rgb, fog_f), oC0.a);\n")

-- 01: "1 tests `false`; 9 to 255 test `true`"; the others by Microsoft's D3DCMP codes
unfoldable pub comparison_text : ℕ → Text
comparison_text f =
    pick (eqb f 1) (lit "false")
    (pick (eqb f 2) (lit "oC0.a < alpha_ref")
    (pick (eqb f 3) (lit "oC0.a == alpha_ref")
    (pick (eqb f 4) (lit "oC0.a <= alpha_ref")
    (pick (eqb f 5) (lit "oC0.a > alpha_ref")
    (pick (eqb f 6) (lit "oC0.a != alpha_ref")
    (pick (eqb f 7) (lit "oC0.a >= alpha_ref") (lit "true")))))))

unfoldable pub test_text : Variant → Text
test_text v = when (tested v) (format "    if (!({comparison})) discard_fragment();\n" (("comparison" ≔ comparison_text v.alpha_func) ∷ []))

unfoldable pub srgb_text : Bool → Text
srgb_text on = when on (lit "    oC0.rgb = mtld3d_linear_to_srgb(oC0.rgb);\n")

unfoldable pub return_text : Variant → Text
return_text v =
    pick (sample_mask v) (lit "    return FfPsOut { oC0, " ⊕ decimal v.sample_mask ⊕ lit "u };\n}\n") (lit "    return oC0;\n}\n")

unfoldable pub output_text : Bool → Variant → Text
output_text specular v =
    specular_text specular ⊕ lit "    float4 oC0 = current;\n" ⊕ fog_text v ⊕ test_text v ⊕ srgb_text (srgb_write v) ⊕ return_text v
