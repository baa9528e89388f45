-- The lines of lookups, put together as they are written: a numbered text, what varies, and how the line ends.
use Prim.Native.Nat.{ℕ}
use mathlib.Core.Bool.{Bool, true, false}
use mathlib.Core.Path.{◌≡◌, ap, sym}
use mathlib.Core.List.{List, ◌++◌, append_assoc}
use Rattle.text.specs.Text.{Text, bytes, lit, pick, when, flat, ◌⊕◌}
use Rattle.text.specs.Marks.{numbered}
use Rattle.combiners.specs.Arguments.{texel_name}
use Rattle.shader.specs.Lookups.{texture_name, sampler_name, coordinate_text, lod_row, level_text, quotient_text, uv_text, half_texel_text, gather_text, depth_text, compare_text, plain_text, texel_line, projected_line, lookup_text}
use Rattle.shader.specs.declared.Coordinate.{Coordinate}
use Rattle.shader.specs.declared.Lookup.TheVariants.{DepthFetch, Plain}

-- templates in one another, as bytes: the end of the outer one goes to the end
two_ended : (u b d e : List ℕ) → (u ++ (b ++ d)) ++ e ≡ u ++ (b ++ (d ++ e))
two_ended u b d e = simp append_assoc

three_ended : (u n w d e : List ℕ) → (u ++ (n ++ (w ++ d))) ++ e ≡ u ++ (n ++ (w ++ (d ++ e)))
three_ended u n w d e = simp append_assoc

fetch_ended : (u c l d f e : List ℕ) → ((u ++ (c ++ (l ++ d))) ++ f) ++ e ≡ u ++ (c ++ (l ++ ((d ++ f) ++ e)))
fetch_ended u c l d f e = simp append_assoc

comparison_ended : (x a y b c l d e : List ℕ) → ((x ++ (a ++ (y ++ b))) ++ (c ++ (l ++ d))) ++ e ≡ x ++ (a ++ (y ++ ((b ++ c) ++ (l ++ (d ++ e)))))
comparison_ended x a y b c l d e = simp append_assoc

pub gathered : (alpha projected : Bool) (i : ℕ) (tc : Text)
    → flat (numbered i (bytes "    float4 t# = s#.gather(samp#, (") ⊕ uv_text projected false tc
    ⊕ numbered i (bytes ") + 0.5 / float2(s#.get_width(), s#.get_height())") ⊕ when alpha (lit ", int2(0), component::w") ⊕ lit ").zxyw;\n")
    ≡ flat (texel_line i (gather_text alpha projected i tc))
unfolding texel_line gather_text texel_name texture_name sampler_name half_texel_text
gathered alpha projected i tc =
    ap (λ (r : List ℕ). flat (numbered i (bytes "    float4 t# = s#.gather(samp#, (")) ++ r)
    (sym (three_ended (flat (uv_text projected false tc)) (flat (numbered i (bytes ") + 0.5 / float2(s#.get_width(), s#.get_height())")))
    (flat (when alpha (lit ", int2(0), component::w"))) (bytes ").zxyw") (bytes ";\n")))

pub fetched : (red lod projected : Bool) (i : ℕ) (c : Coordinate)
    → flat (numbered i (bytes "    float4 t# = float4(s#.sample(samp#, ") ⊕ uv_text projected false (coordinate_text i c) ⊕ lit ", " ⊕ level_text lod i
    ⊕ pick red (lit "), 0.0, 0.0, 1.0);\n") (lit "));\n"))
    ≡ flat (lookup_text (DepthFetch red) lod projected i c)
unfolding lookup_text texel_line depth_text texel_name texture_name sampler_name
fetched true lod projected i c =
    ap (λ (r : List ℕ). flat (numbered i (bytes "    float4 t# = float4(s#.sample(samp#, ")) ++ r)
    (sym (fetch_ended (flat (uv_text projected false (coordinate_text i c))) (bytes ", ") (flat (level_text lod i)) (bytes ")") (bytes ", 0.0, 0.0, 1.0)")
    (bytes ";\n")))
fetched false lod projected i c =
    ap (λ (r : List ℕ). flat (numbered i (bytes "    float4 t# = float4(s#.sample(samp#, ")) ++ r)
    (sym (fetch_ended (flat (uv_text projected false (coordinate_text i c))) (bytes ", ") (flat (level_text lod i)) (bytes ")") (bytes ")") (bytes ";\n")))

pub compared : (lod : Bool) (i : ℕ) (tc : Text)
    → flat (numbered i (bytes "    float4 t# = float4(s#.sample_compare(samp#, ") ⊕ tc ⊕ lit ".xy, saturate(" ⊕ tc ⊕ lit ".z), " ⊕ level_text lod i
    ⊕ lit "));\n")
    ≡ flat (texel_line i (compare_text lod i tc))
unfolding texel_line compare_text texel_name texture_name sampler_name
compared lod i tc =
    ap (λ (r : List ℕ). flat (numbered i (bytes "    float4 t# = float4(s#.sample_compare(samp#, ")) ++ r)
    (sym (comparison_ended (flat tc) (bytes ".xy, saturate(") (flat tc) (bytes ".z)") (bytes ", ") (flat (level_text lod i)) (bytes "))") (bytes ";\n")))

pub sampled : (three lod projected : Bool) (i : ℕ) (c : Coordinate)
    → flat (numbered i (bytes "    float4 t# = s#.sample(samp#, ") ⊕ uv_text projected three (coordinate_text i c)
    ⊕ when lod (lit ", bias(" ⊕ lod_row i ⊕ lit ".x)")
    ⊕ lit ");\n")
    ≡ flat (lookup_text (Plain three) lod projected i c)
unfolding lookup_text texel_line plain_text texel_name texture_name sampler_name
sampled three lod projected i c =
    ap (λ (r : List ℕ). flat (numbered i (bytes "    float4 t# = s#.sample(samp#, ")) ++ r)
    (sym (two_ended (flat (uv_text projected three (coordinate_text i c))) (flat (when lod (lit ", bias(" ⊕ lod_row i ⊕ lit ".x)"))) (bytes ")") (bytes ";\n")))

pub projects : (i : ℕ) (tc : Text)
    → flat (numbered i (bytes "    float3 proj# = ") ⊕ (tc ⊕ lit ".w != 0.0 ? " ⊕ quotient_text true tc) ⊕ lit " : float3(0.0);\n") ≡ flat (projected_line i tc)
unfolding projected_line coordinate_text
projects i tc =
    ap (λ (r : List ℕ). flat (numbered i (bytes "    float3 proj# = ")) ++ r)
    (append_assoc (flat tc) (bytes ".w != 0.0 ? " ++ flat (quotient_text true tc)) (bytes " : float3(0.0);\n"))
