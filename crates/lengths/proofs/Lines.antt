-- A stage's line: 36 bytes and its two expressions at most, and short of that by what it reads.
use Prim.Native.Nat.{ℕ, ◌+◌, ◌*◌, ◌≤◌}
use mathlib.Core.Bool.{Bool, true, false, not, ◌&&◌, ◌||◌, cond}
use native.Mathlib.Omega.{arith}
use native.Mathlib.Nat.{le_trans}
use lib.Dec.{eqb, lit≤}
use Rattle.text.proofs.Size.{most}
use Rattle.combiners.specs.Codes as codes
use Rattle.combiners.specs.Codes.{texture, temp, disable, dot_product3}
use Rattle.combiners.specs.Combiners.{expression_text}
use Rattle.combiners.specs.declared.Expression.{Expression}
use Rattle.cascade.specs.Keys.{textured, to_temp, falls_back, is_bump_op, alpha_from_colour}
use Rattle.cascade.specs.Reading.{keeps, reads_temp_by, reads_texel_by, alpha_written, reads_temp, reads_texel}
use Rattle.cascade.specs.Stages.{fallback, combined, expression_of, alpha_of, line_text}
use Rattle.cascade.specs.declared.Alpha.{Alpha}
use Rattle.cascade.specs.declared.Alpha.TheVariants.{FromColour, Kept, Written}
use Rattle.values.specs.declared.Combiner.{Combiner}
use Rattle.values.specs.declared.Stage.{Stage}
use Rattle.lengths.proofs.Sums.{flag, or_le, and_or_le, and_le}
use Rattle.lengths.proofs.Expressions.{budget, credit, combined_le, fallback_le, budget_low, texel_kept, chosen, chosen_le}

-- The expressions of a stage are no longer than these lengths, but that a dot product for colour, which sets alpha too, may have three bytes more.
pub record Within (colour alpha : ℕ) (s : Stage) : Type 0 where
  pub first : budget s.colour.op ≤ colour + 3 * flag (eqb s.colour.op dot_product3)
  pub second : budget s.alpha.op ≤ alpha

-- what alpha a stage writes, and whether it does, by tests: from the dot product for colour, its op disabled, falling back, its op a bump op
abbrev alpha_by : Bool → Bool → Bool → Bool → Expression → Alpha
alpha_by dot off back bump x = cond dot FromColour (cond off Kept (cond back (Written fallback) (cond bump Kept (Written x))))

abbrev written_by : Bool → Bool → Bool → Bool → Bool
written_by dot off back bump = not dot && (not off && (back || not bump))

-- a dot product that falls back sets no alpha
colour_le : (colour n : ℕ) (dot back : Bool) → 100 ≤ n → n ≤ colour + 3 * flag dot → cond back 24 n ≤ colour + 3 * flag (dot && not back)
unfolding flag
colour_le colour n true true low h = omega arith
colour_le colour n true false low h = omega arith
colour_le colour n false true low h = omega arith
colour_le colour n false false low h = omega arith

credits_le : (tex a b p q : Bool) → credit tex (a || b) (p || q) ≤ credit tex a p + credit tex b q
credits_le tex a b p q = omega (arith, and_or_le tex a b, or_le p q)

-- the literal parts of a line take 36 bytes, or 16 where there is no alpha
line_sum : (x y a b n colour alpha : ℕ)
    → x + a ≤ colour + 0 → y + b ≤ alpha → n ≤ a + b → 4 + (7 + (11 + (x + (8 + (y + 6))))) + n ≤ 36 + colour + alpha
line_sum x y a b n colour alpha h k l = omega arith

kept_sum : (x y a n colour alpha : ℕ) → x + a ≤ colour + 0 → y ≤ alpha → n ≤ a → 4 + (7 + (11 + (x + (8 + (y + 6))))) + n ≤ 36 + colour + alpha
kept_sum x y a n colour alpha h k l = omega arith

short_sum : (x a n colour alpha : ℕ) → x + a ≤ colour + 3 → n ≤ a → 4 + (7 + (3 + (x + 2))) + n ≤ 36 + colour + alpha
short_sum x a n colour alpha h l = omega arith

no_credit : (tex a p : Bool) → credit tex (a || false) (p || false) ≤ credit tex a p
unfolding flag
no_credit tex a p = omega (arith, credits_le tex a false p false, and_le tex false)

module _ (i : ℕ) (tex to_temp : Bool) (x : Expression) (c : Combiner) (colour alpha : ℕ) (within : budget c.op ≤ alpha) (texel temp : Bool) where
  abbrev shorter : ℕ
  shorter = credit tex texel temp

  enough : 24 ≤ alpha
  enough = le_trans (lit≤ tt) (le_trans (budget_low c.op) within)

  -- the line by the tests that the alpha goes by, its colour x reading the texel or TEMP
  line_le : (dot off back bump : Bool) → most (expression_text i tex x) + shorter ≤ colour + 3 * flag dot
      → most (line_text i tex to_temp x (alpha_by dot off back bump (combined tex c)))
      + credit tex (texel || (written_by dot off back bump && (not back && texel_kept i tex c)))
      (temp || (written_by dot off back bump && (not back && keeps codes.temp tex c)))
      ≤ 36 + colour + alpha
  unfolding line_text flag
  line_le true off back bump h = short_sum _ shorter _ colour alpha h (no_credit tex texel temp)
  line_le false true back bump h = kept_sum _ 7 shorter _ colour alpha h (le_trans (lit≤ tt) enough) (no_credit tex texel temp)
  line_le false false true bump h = kept_sum _ _ shorter _ colour alpha h (le_trans (fallback_le i tex) enough) (no_credit tex texel temp)
  line_le false false false true h = kept_sum _ 7 shorter _ colour alpha h (le_trans (lit≤ tt) enough) (no_credit tex texel temp)
  line_le false false false false h =
      line_sum _ _ shorter _ _ colour alpha h (le_trans (combined_le i tex c) within) (credits_le tex texel (texel_kept i tex c) temp (keeps codes.temp tex c))

pub stage_line_lem : (i : ℕ) (s : Stage) (colour alpha : ℕ) → Within colour alpha s
    → most (line_text i (textured s) (to_temp s) (expression_of (textured s) s.colour) (alpha_of s)) + credit (textured s) (reads_texel s) (reads_temp s)
    ≤ 36 + colour + alpha
unfolding reads_texel reads_temp alpha_written alpha_from_colour expression_of alpha_of
stage_line_lem i s colour alpha w =
    let tex = textured s in
    let back = falls_back tex s.colour in
    let dot = eqb s.colour.op dot_product3 in
    line_le i tex (to_temp s) (chosen i tex s.colour back) s.alpha colour alpha w.second (reads_texel_by tex s.colour) (reads_temp_by tex s.colour)
    (dot && not back) (eqb s.alpha.op disable) (falls_back tex s.alpha) (is_bump_op s.alpha.op)
    (le_trans (chosen_le i tex s.colour back) (colour_le colour (budget s.colour.op) dot back (budget_low s.colour.op) w.first))
