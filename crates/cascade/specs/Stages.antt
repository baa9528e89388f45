-- A stage decoded to its expressions, and the line that it writes.
-- 01: "Alpha is one of: from colour (op 24 without fallback), kept (alpha op 1, or 22 or 23 without fallback), or an expression. A bump stage has
-- no expressions at all and is passed over early."
use Rattle.std.specs.Prelude.{ℕ, Bool, false, cond, Option, Some, None, [], ◌∷◌, eqb}
use Rattle.text.specs.Text.{Text, lit, pick}
use Rattle.text.specs.Format.{format, ◌≔◌}
use Rattle.combiners.specs.Codes.{disable}
use Rattle.combiners.specs.Arguments.{arg_of}
use Rattle.combiners.specs.Combiners.{op_of, three_operands, expression_text}
use Rattle.combiners.specs.declared.Arg.{Arg}
use Rattle.combiners.specs.declared.Source.TheVariants.{Current}
use Rattle.combiners.specs.declared.Op.TheVariants.{SelectArg1}
use Rattle.combiners.specs.declared.Expression.{Expression}
use Rattle.cascade.specs.Keys.{textured, is_bump_op, falls_back, bump, alpha_from_colour}
use Rattle.values.specs.declared.Combiner.{Combiner}
use Rattle.values.specs.declared.Stage.{Stage}
use Rattle.cascade.specs.declared.Alpha.{Alpha}
use Rattle.cascade.specs.declared.Alpha.TheVariants.{FromColour, Kept, Written}
use Rattle.cascade.specs.declared.Expressions.{Expressions}

abbrev pub current_arg : Arg
current_arg = record { source = Current; replicate = false; complement = false }

-- 01: "The expression is then `current`": SELECTARG1 of CURRENT
abbrev pub fallback : Expression
fallback = record { op = SelectArg1; arg1 = current_arg; arg2 = current_arg; arg0 = current_arg }

-- argument 0, which is resolved where the op is 25 or 26; no other op has it in its text
abbrev pub arg0_of : Bool → Combiner → Arg
arg0_of tex c = cond (three_operands c.op) (arg_of tex c.arg0) current_arg

abbrev pub combined : Bool → Combiner → Expression
combined tex c = record { op = op_of c.op; arg1 = arg_of tex c.arg1; arg2 = arg_of tex c.arg2; arg0 = arg0_of tex c }

unfoldable pub expression_of : Bool → Combiner → Expression
expression_of tex c = cond (falls_back tex c) fallback (combined tex c)

unfoldable pub alpha_of : Stage → Alpha
alpha_of s =
    cond (alpha_from_colour s) FromColour
    (cond (eqb s.alpha.op disable) Kept
    (cond (falls_back (textured s) s.alpha) (Written fallback)
    (cond (is_bump_op s.alpha.op) Kept (Written (combined (textured s) s.alpha)))))

unfoldable pub decode : Stage → Option Expressions
decode s = cond (bump s) None (Some (record { colour = expression_of (textured s) s.colour; alpha = alpha_of s }))

-- the register that the result goes to
abbrev pub result_name : Bool → Text
result_name to_temp = pick to_temp (lit "temp") (lit "current")

-- the line of stage i
unfoldable pub line_text : ℕ → Bool → Bool → Expression → Alpha → Text
line_text i tex to_temp colour FromColour =
    format "    {result} = {colour};\n" (("result" ≔ result_name to_temp) ∷ ("colour" ≔ expression_text i tex colour) ∷ [])
line_text i tex to_temp colour Kept =
    format "    {result} = float4(({colour}).rgb, ({result}).a);\n" (("result" ≔ result_name to_temp) ∷ ("colour" ≔ expression_text i tex colour) ∷ [])
line_text i tex to_temp colour (Written alpha) =
    format "    {result} = float4(({colour}).rgb, ({alpha}).a);\n"
    (("result" ≔ result_name to_temp) ∷ ("colour" ≔ expression_text i tex colour) ∷ ("alpha" ≔ expression_text i tex alpha) ∷ [])
