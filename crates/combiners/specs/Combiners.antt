-- The combiners: the operation of a code, its text, and the arguments that the text keeps.
-- 01: "Twenty ops have a text: 2 to 16, 18 to 21 and 24. Any other op that arrives here keeps argument 1's text." 02 gives texts to 25 and 26.
use Rattle.std.specs.Prelude.{ℕ, Bool, true, false, not, ◌&&◌, ◌||◌, cond, List, [], ◌∷◌, eqb, leb}
use Prim.Native.String.{String}
use Rattle.text.specs.Text.{Text}
use Rattle.text.specs.Format.{format, ◌≔◌}
use Rattle.combiners.specs.Codes.{select_arg1, select_arg2, blend_texture_alpha, blend_texture_alpha_pm, multiply_add, lerp}
use Rattle.combiners.specs.Arguments.{texel_name, arg_text}
use Rattle.combiners.specs.declared.Op.{Op}
use Rattle.combiners.specs.declared.Op.TheVariants.{SelectArg1, SelectArg2, Modulate, Modulate2X, Modulate4X, Add, AddSigned, AddSigned2X, Subtract, AddSmooth, BlendDiffuseAlpha, BlendTextureAlpha, BlendFactorAlpha, BlendTextureAlphaPM, BlendCurrentAlpha, ModulateAlphaAddColor, ModulateColorAddAlpha, ModulateInvAlphaAddColor, ModulateInvColorAddAlpha, DotProduct3, Other, MultiplyAdd, Lerp}
use Rattle.combiners.specs.declared.Expression.{Expression}

abbrev pub has_text : ℕ → Bool
has_text o = (leb 2 o && leb o 16) || ((leb 18 o && leb o 21) || (leb 24 o && leb o 26))

-- the operations by Microsoft's codes
abbrev pub op_codes : List (ℕ × Op)
op_codes =
    (2, SelectArg1) ∷ (3, SelectArg2) ∷ (4, Modulate) ∷ (5, Modulate2X) ∷ (6, Modulate4X) ∷ (7, Add) ∷ (8, AddSigned) ∷ (9, AddSigned2X) ∷ (10, Subtract)
    ∷ (11, AddSmooth) ∷ (12, BlendDiffuseAlpha) ∷ (13, BlendTextureAlpha) ∷ (14, BlendFactorAlpha) ∷ (15, BlendTextureAlphaPM) ∷ (16, BlendCurrentAlpha)
    ∷ (18, ModulateAlphaAddColor) ∷ (19, ModulateColorAddAlpha) ∷ (20, ModulateInvAlphaAddColor) ∷ (21, ModulateInvColorAddAlpha) ∷ (24, DotProduct3)
    ∷ (25, MultiplyAdd) ∷ (26, Lerp) ∷ []

abbrev pub look : List (ℕ × Op) → ℕ → Op
look [] o = Other
look (e ∷ r) o = cond (eqb o e.0) e.1 (look r o)

abbrev pub op_of : ℕ → Op
op_of o = look op_codes o

-- The text of an operation, with a texture bound or without: {a} and {b} are arguments 1 and 2, {t} is the stage's texel, {z} is argument 0.
-- 02: "The texts are `saturate(Z + A * B)` and `(Z * A + (1.0 - Z) * B)`, Z being argument 0, A and B arguments 1 and 2."
abbrev pub template : Op → Bool → String
template SelectArg1 textured = "{a}"
template SelectArg2 textured = "{b}"
template Modulate textured = "({a} * {b})"
template Modulate2X textured = "saturate(2.0 * {a} * {b})"
template Modulate4X textured = "saturate(4.0 * {a} * {b})"
template Add textured = "saturate({a} + {b})"
template AddSigned textured = "saturate({a} + {b} - 0.5)"
template AddSigned2X textured = "saturate(2.0 * ({a} + {b} - 0.5))"
template Subtract textured = "saturate({a} - {b})"
template AddSmooth textured = "saturate({a} + {b} * (1.0 - {a}))"
template BlendDiffuseAlpha textured = "({a} * in.color0.a + {b} * (1.0 - in.color0.a))"
template BlendTextureAlpha true = "({a} * {t}.a + {b} * (1.0 - {t}.a))"
template BlendTextureAlpha false = "{b}"
template BlendFactorAlpha textured = "({a} * ps_c[0].a + {b} * (1.0 - ps_c[0].a))"
template BlendTextureAlphaPM true = "saturate({a} + {b} * (1.0 - {t}.a))"
template BlendTextureAlphaPM false = "saturate({a} + {b})"
template BlendCurrentAlpha textured = "({a} * current.a + {b} * (1.0 - current.a))"
template ModulateAlphaAddColor textured = "saturate({a} + ({a}).a * {b})"
template ModulateColorAddAlpha textured = "saturate({a} * {b} + ({a}).a)"
template ModulateInvAlphaAddColor textured = "saturate({a} + (1.0 - ({a}).a) * {b})"
template ModulateInvColorAddAlpha textured = "saturate((1.0 - {a}) * {b} + ({a}).a)"
template DotProduct3 textured = "float4(saturate(4.0 * dot(({a}).rgb - 0.5, ({b}).rgb - 0.5)))"
template Other textured = "{a}"
template MultiplyAdd textured = "saturate({z} + {a} * {b})"
template Lerp textured = "({z} * {a} + (1.0 - {z}) * {b})"

unfoldable pub op_text : ℕ → Bool → Op → Text → Text → Text → Text
op_text i textured o a b z = format (template o textured) (("a" ≔ a) ∷ ("b" ≔ b) ∷ ("t" ≔ texel_name i) ∷ ("z" ≔ z) ∷ [])

unfoldable pub expression_text : ℕ → Bool → Expression → Text
expression_text i textured e = op_text i textured e.op (arg_text i e.arg1) (arg_text i e.arg2) (arg_text i e.arg0)

-- 01: "Kept arguments: op 3, and op 13 without texture, keep the second; op 2 and ops without a text keep the first; the rest keep both." 02, of 25
-- and 26: "All three arguments are kept".
abbrev pub keeps_first : Bool → ℕ → Bool
keeps_first textured o = not (eqb o select_arg2 || (eqb o blend_texture_alpha && not textured))

abbrev pub keeps_second : Bool → ℕ → Bool
keeps_second textured o = has_text o && not (eqb o select_arg1)

-- 02: "MULTIPLYADD (25) and LERP (26), which need a third operand": the ops that have an argument 0
abbrev pub three_operands : ℕ → Bool
three_operands o = eqb o multiply_add || eqb o lerp

-- 01: "With a texture bound, ops 13 and 15 outside a fallback also read the stage's `t`."
abbrev pub reads_own_texel : Bool → ℕ → Bool
reads_own_texel textured o = textured && (eqb o blend_texture_alpha || eqb o blend_texture_alpha_pm)
