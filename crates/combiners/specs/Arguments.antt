-- An argument byte as its source and modifiers, and its text.
-- 01: "Selectors: 0 `in.color0`, 1 `current`, 2 `t` and the stage number (no texture: `float4(1.0)`), 3 `ps_c[0]`, 4 `in.color1`, 5 `temp`,
-- 6 `ps_c[stage + 1]`, 7 to 15 `float4(1.0)`. Bit 0x20 appends `.aaaa`, then bit 0x10 wraps as `(1.0 - ..)`."
use Rattle.std.specs.Prelude.{ℕ, ◌+◌, Bool, cond, [], ◌∷◌, eqb}
use Rattle.text.specs.Text.{Text, lit, ◌⊕◌, pick, when, digit}
use Rattle.text.specs.Format.{format, ◌≔◌}
use Rattle.combiners.specs.Codes.{bit, selector, complement_bit, replicate_bit}
use Rattle.combiners.specs.declared.Source.{Source}
use Rattle.combiners.specs.declared.Source.TheVariants.{Diffuse, Current, Texture, Factor, Specular, Temp, Constant, White}
use Rattle.combiners.specs.declared.Arg.{Arg}

-- the source that a selector names at a stage with a texture, or without
abbrev pub source_of : Bool → ℕ → Source
source_of textured s =
    cond (eqb s 0) Diffuse
    (cond (eqb s 1) Current
    (cond (eqb s 2) (cond textured Texture White)
    (cond (eqb s 3) Factor (cond (eqb s 4) Specular (cond (eqb s 5) Temp (cond (eqb s 6) Constant White))))))

abbrev pub arg_of : Bool → ℕ → Arg
arg_of textured a = record { source = source_of textured (selector a); replicate = bit a replicate_bit; complement = bit a complement_bit }

-- the texel of stage i
unfoldable pub texel_name : ℕ → Text
texel_name i = format "t{i}" (("i" ≔ digit i) ∷ [])

-- the constant row of stage i
unfoldable pub constant_row : ℕ → Text
constant_row i = format "ps_c[{row}]" (("row" ≔ digit (i + 1)) ∷ [])

unfoldable pub source_text : ℕ → Source → Text
source_text i Diffuse = lit "in.color0"
source_text i Current = lit "current"
source_text i Texture = texel_name i
source_text i Factor = lit "ps_c[0]"
source_text i Specular = lit "in.color1"
source_text i Temp = lit "temp"
source_text i Constant = constant_row i
source_text i White = lit "float4(1.0)"

-- the source, with `.aaaa` for the replicated alpha
unfoldable pub replicated : ℕ → Arg → Text
replicated i a = source_text i a.source ⊕ when a.replicate (lit ".aaaa")

unfoldable pub arg_text : ℕ → Arg → Text
arg_text i a = pick a.complement (format "(1.0 - {x})" (("x" ≔ replicated i a) ∷ [])) (replicated i a)
