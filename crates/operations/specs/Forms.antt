-- The operations as the writers have them: the words before, between and behind the arguments.
-- Only contracts of functions that `expressions` alone calls cite this file. `right`, in proofs/Table, shows that it says the same as the templates
-- of `combiners`, which the contract of `expressions` rests on; so nobody needs to believe it.
use Rattle.std.specs.Prelude.{ℕ, Bool, cond}
use Rattle.text.specs.Text.{Text, bytes, lit, ◌⊕◌}
use Rattle.text.specs.Marks.{numbered}
use Rattle.combiners.specs.declared.Op.{Op}
use Rattle.combiners.specs.declared.Op.TheVariants.{SelectArg1, SelectArg2, Modulate, Modulate2X, Modulate4X, Add, AddSigned, AddSigned2X, Subtract, AddSmooth, BlendDiffuseAlpha, BlendTextureAlpha, BlendFactorAlpha, BlendTextureAlphaPM, BlendCurrentAlpha, ModulateAlphaAddColor, ModulateColorAddAlpha, ModulateInvAlphaAddColor, ModulateInvColorAddAlpha, DotProduct3, Other, MultiplyAdd, Lerp}
use Rattle.operations.specs.declared.forms.Opening.{Opening}
use Rattle.operations.specs.declared.forms.Opening.TheVariants as O
use Rattle.operations.specs.declared.forms.Joining.{Joining}
use Rattle.operations.specs.declared.forms.Joining.TheVariants as M
use Rattle.operations.specs.declared.forms.Ending.{Ending}
use Rattle.operations.specs.declared.forms.Ending.TheVariants as C
use Rattle.operations.specs.declared.forms.Form.{Form}
use Rattle.operations.specs.declared.forms.Form.TheVariants.{Arg1, Arg2, Both}

-- i is the stage; a, b and z are the texts of arguments 1, 2 and 0
abbrev pub opening_text : Text → Opening → Text
opening_text z O.Bracket = lit "("
opening_text z O.Saturate = lit "saturate("
opening_text z O.SaturateTwice = lit "saturate(2.0 * "
opening_text z O.SaturateFourTimes = lit "saturate(4.0 * "
opening_text z O.SaturateTwiceSum = lit "saturate(2.0 * ("
opening_text z O.SaturateInverse = lit "saturate((1.0 - "
opening_text z O.Dot = lit "float4(saturate(4.0 * dot(("
opening_text z O.SaturateArg0Plus = lit "saturate(" ⊕ z ⊕ lit " + "
opening_text z O.BracketArg0Times = lit "(" ⊕ z ⊕ lit " * "

abbrev pub joining_text : ℕ → Text → Text → Joining → Text
joining_text i a z M.Times = lit " * "
joining_text i a z M.Plus = lit " + "
joining_text i a z M.Minus = lit " - "
joining_text i a z M.TimesDiffuseAlphaPlus = lit " * in.color0.a + "
joining_text i a z M.TimesTexelAlphaPlus = numbered i (bytes " * t#.a + ")
joining_text i a z M.TimesFactorAlphaPlus = lit " * ps_c[0].a + "
joining_text i a z M.TimesCurrentAlphaPlus = lit " * current.a + "
joining_text i a z M.PlusArg1AlphaTimes = lit " + (" ⊕ a ⊕ lit ").a * "
joining_text i a z M.PlusInverseArg1AlphaTimes = lit " + (1.0 - (" ⊕ a ⊕ lit ").a) * "
joining_text i a z M.BracketTimes = lit ") * "
joining_text i a z M.Dot = lit ").rgb - 0.5, ("
joining_text i a z M.PlusInverseArg0Times = lit " + (1.0 - " ⊕ z ⊕ lit ") * "

abbrev pub ending_text : ℕ → Text → Ending → Text
ending_text i a C.Bracket = lit ")"
ending_text i a C.MinusHalf = lit " - 0.5)"
ending_text i a C.MinusHalfSum = lit " - 0.5))"
ending_text i a C.TimesInverseDiffuseAlpha = lit " * (1.0 - in.color0.a))"
ending_text i a C.TimesInverseTexelAlpha = numbered i (bytes " * (1.0 - t#.a))")
ending_text i a C.TimesInverseFactorAlpha = lit " * (1.0 - ps_c[0].a))"
ending_text i a C.TimesInverseCurrentAlpha = lit " * (1.0 - current.a))"
ending_text i a C.TimesInverseArg1 = lit " * (1.0 - " ⊕ a ⊕ lit "))"
ending_text i a C.PlusArg1Alpha = lit " + (" ⊕ a ⊕ lit ").a)"
ending_text i a C.Dot = lit ").rgb - 0.5)))"

abbrev pub form_text : ℕ → Text → Text → Text → Form → Text
form_text i a b z Arg1 = a
form_text i a b z Arg2 = b
form_text i a b z (Both o m c) = opening_text z o ⊕ a ⊕ joining_text i a z m ⊕ b ⊕ ending_text i a c

-- the form of an operation, with a texture bound or without
abbrev pub form_of : Bool → Op → Form
form_of textured SelectArg1 = Arg1
form_of textured SelectArg2 = Arg2
form_of textured Modulate = Both O.Bracket M.Times C.Bracket
form_of textured Modulate2X = Both O.SaturateTwice M.Times C.Bracket
form_of textured Modulate4X = Both O.SaturateFourTimes M.Times C.Bracket
form_of textured Add = Both O.Saturate M.Plus C.Bracket
form_of textured AddSigned = Both O.Saturate M.Plus C.MinusHalf
form_of textured AddSigned2X = Both O.SaturateTwiceSum M.Plus C.MinusHalfSum
form_of textured Subtract = Both O.Saturate M.Minus C.Bracket
form_of textured AddSmooth = Both O.Saturate M.Plus C.TimesInverseArg1
form_of textured BlendDiffuseAlpha = Both O.Bracket M.TimesDiffuseAlphaPlus C.TimesInverseDiffuseAlpha
form_of textured BlendTextureAlpha = cond textured (Both O.Bracket M.TimesTexelAlphaPlus C.TimesInverseTexelAlpha) Arg2
form_of textured BlendFactorAlpha = Both O.Bracket M.TimesFactorAlphaPlus C.TimesInverseFactorAlpha
form_of textured BlendTextureAlphaPM = cond textured (Both O.Saturate M.Plus C.TimesInverseTexelAlpha) (Both O.Saturate M.Plus C.Bracket)
form_of textured BlendCurrentAlpha = Both O.Bracket M.TimesCurrentAlphaPlus C.TimesInverseCurrentAlpha
form_of textured ModulateAlphaAddColor = Both O.Saturate M.PlusArg1AlphaTimes C.Bracket
form_of textured ModulateColorAddAlpha = Both O.Saturate M.Times C.PlusArg1Alpha
form_of textured ModulateInvAlphaAddColor = Both O.Saturate M.PlusInverseArg1AlphaTimes C.Bracket
form_of textured ModulateInvColorAddAlpha = Both O.SaturateInverse M.BracketTimes C.PlusArg1Alpha
form_of textured DotProduct3 = Both O.Dot M.Dot C.Dot
form_of textured Other = Arg1
form_of textured MultiplyAdd = Both O.SaturateArg0Plus M.Times C.Bracket
form_of textured Lerp = Both O.BracketArg0Times M.PlusInverseArg0Times C.Bracket
