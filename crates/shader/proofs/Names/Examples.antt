-- Short texts, and what is found in them, each by computing; texts with an idle local.
use Prim.Native.String.{String}
use mathlib.Core.Bool.{Bool, true, false}
use mathlib.Core.Path.{◌≡◌, refl}
use mathlib.Core.List.{List, [], ◌∷◌, ◌++◌, map}
use lib.ListN.{replicate}
use Rattle.text.specs.Text.{bytes}
use Rattle.shader.specs.Names.{word, tokens, Occurrence, declaration, usage, row, occurrences}
use Rattle.shader.specs.Idle.{watched, NoIdle}
use Rattle.shader.proofs.Names.Words.{the}

-- behind an entry
abbrev found : String → List Occurrence
found s = occurrences (bytes "fragment m(" ++ bytes s)

before_the_entry : occurrences (bytes "t0;\nfragment t1(t2") ≡ usage (the "t2") ∷ []
before_the_entry = refl

inside_a_word : tokens (bytes "float4") ≡ word (bytes "float4") ∷ []
inside_a_word = refl

behind_a_word : found "float4(t4)" ≡ usage (the "t4") ∷ []
behind_a_word = refl

two_spaces : found "float4  t4" ≡ usage (the "t4") ∷ []
two_spaces = refl

another_space : found "float4\nt5, xfloat4 t6" ≡ usage (the "t5") ∷ usage (the "t6") ∷ []
another_space = refl

full_stop : found "in.current . temp.x, oC0" ≡ usage (the "in") ∷ usage (the "temp") ∷ usage (the "oC0") ∷ []
full_stop = refl

declared_by_type : found "float4 t4, depth2d<float> s0, sampler samp0" ≡ declaration (the "t4") ∷ declaration (the "s0") ∷ declaration (the "samp0") ∷ []
declared_by_type = refl

another_type : found "depth2d<half> s1" ≡ usage (the "s1") ∷ []
another_type = refl

declared_by_reference : found "float4 *ps_c, float &alpha_ref" ≡ declaration (the "ps_c") ∷ declaration (the "alpha_ref") ∷ []
declared_by_reference = refl

another_reference : found "float *fog_data, float4 &fog_c, float4 * fog_f" ≡ usage (the "fog_data") ∷ usage (the "fog_c") ∷ usage (the "fog_f") ∷ []
another_reference = refl

rows : found "ps_c[3].aaaa + ps_c[12]" ≡ usage (the "ps_c") ∷ row 3 ∷ usage (the "ps_c") ∷ row 12 ∷ []
rows = refl

no_rows : found "ps_c [3] + ps_c[i] + ps_c[3 ]" ≡ usage (the "ps_c") ∷ usage (the "ps_c") ∷ usage (the "ps_c") ∷ []
no_rows = refl

no_row_of_a_declaration : found "float4 ps_c[3]" ≡ declaration (the "ps_c") ∷ []
no_row_of_a_declaration = refl

numbers : found "t8 t07 t_7 7t7 T7 pc7" ≡ usage (the "pc7") ∷ []
numbers = refl

-- Texts with an idle local are refuted: one that is not used behind its declaration, and one that is used before it alone.
idle : NoIdle (bytes "fragment m(float4 t0 = s0.sample(samp0, in.texcoord0.xy); current = in.color0") → ⊥
idle h = h (the "t0") [] (usage (the "s0") ∷ usage (the "samp0") ∷ usage (the "in") ∷ usage (the "current") ∷ usage (the "in") ∷ []) tt refl

used_too_early : NoIdle (bytes "fragment m(current = temp; float4 temp = float4(0.0)") → ⊥
used_too_early h = h (the "temp") (usage (the "current") ∷ usage (the "temp") ∷ []) [] tt refl

-- another stage's texel is no use, nor is a field of that name
another_texel : NoIdle (bytes "fragment m(float4 t0 = t1.t0") → ⊥
another_texel h = h (the "t0") [] (usage (the "t1") ∷ []) tt refl

abbrev watches : List String → List Bool
watches l = map (λ s. watched (the s)) l

may_not_be_idle : watches ("t0" ∷ "temp" ∷ "pc1" ∷ "bc7" ∷ "proj2" ∷ "bump_env" ∷ []) ≡ replicate 6 true
may_not_be_idle = refl

may_be_idle : watches ("s0" ∷ "samp0" ∷ "alpha_ref" ∷ "lod_bias" ∷ []) ≡ replicate 4 false
may_be_idle = refl
