-- The expressions of 01's worked stages Z2, Z4 and Z9, and some of three operands, computed from their codes and argument bytes.
use Prim.Native.Nat.{ℕ}
use mathlib.Core.Bool.{Bool, true, false}
use mathlib.Core.List.{List}
use mathlib.Core.Path.{◌≡◌, refl}
use Rattle.text.specs.Text.{bytes, flat}
use Rattle.combiners.specs.Arguments.{texel_name, constant_row, source_text, replicated, arg_text, arg_of}
use Rattle.combiners.specs.Combiners.{op_of, op_text, expression_text}

-- the text of an op at stage i, with a texture bound or without, and the bytes of arguments 1, 2 and 0
abbrev pub written : ℕ → Bool → ℕ → ℕ → ℕ → ℕ → List ℕ
written i textured o a b z =
    flat (expression_text i textured (record { op = op_of o; arg1 = arg_of textured a; arg2 = arg_of textured b; arg0 = arg_of textured z }))

pub z2 : written 0 true 4 2 0 1 ≡ bytes "(t0 * in.color0)"
unfolding expression_text op_text arg_text replicated source_text texel_name
z2 = refl

pub z4 : written 2 false 2 54 0 1 ≡ bytes "(1.0 - ps_c[3].aaaa)"
unfolding expression_text op_text arg_text replicated source_text constant_row
z4 = refl

pub z9 : written 0 false 13 0 4 1 ≡ bytes "in.color1"
unfolding expression_text op_text arg_text replicated source_text
z9 = refl

pub multiply_add_lem : written 0 true 25 2 0 0x36 ≡ bytes "saturate((1.0 - ps_c[1].aaaa) + t0 * in.color0)"
unfolding expression_text op_text arg_text replicated source_text texel_name constant_row
multiply_add_lem = refl

pub lerp : written 1 true 26 2 4 0x15 ≡ bytes "((1.0 - temp) * t1 + (1.0 - (1.0 - temp)) * in.color1)"
unfolding expression_text op_text arg_text replicated source_text texel_name
lerp = refl
