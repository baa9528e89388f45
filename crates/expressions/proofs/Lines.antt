-- The line of a stage, put together as it is written: its start by the register that it writes, its expressions, its end.
use Prim.Native.Nat.{ℕ}
use mathlib.Core.Bool.{Bool, true, false}
use mathlib.Core.Path.{refl}
use mathlib.Core.List.{List}
use Rattle.text.specs.Text.{Text, lit, pick, ◌⊕◌}
use Rattle.text.specs.Buffer.{Wrote}
use Rattle.text.proofs.Laws.{same}
use Rattle.combiners.specs.Combiners.{expression_text}
use Rattle.combiners.specs.declared.Expression.{Expression}
use Rattle.cascade.specs.Stages.{line_text}
use Rattle.cascade.specs.declared.Alpha.TheVariants.{FromColour, Kept, Written}

abbrev start : Bool → Text
start temp = pick temp (lit "    temp = ") (lit "    current = ")

abbrev own_alpha : Bool → Text
own_alpha temp = pick temp (lit ").rgb, (temp).a);\n") (lit ").rgb, (current).a);\n")

module _ {l l' : List ℕ} {a a' : ℕ} (i : ℕ) (textured : Bool) (e : Expression) where
  pub from_colour : (temp : Bool) → Wrote l a l' a' (start temp ⊕ expression_text i textured e ⊕ lit ";\n")
      → Wrote l a l' a' (line_text i textured temp e FromColour)
  unfolding line_text
  from_colour true w = same refl w
  from_colour false w = same refl w

  pub keeping : (temp : Bool) → Wrote l a l' a' (start temp ⊕ lit "float4((" ⊕ expression_text i textured e ⊕ own_alpha temp)
      → Wrote l a l' a' (line_text i textured temp e Kept)
  unfolding line_text
  keeping true w = same refl w
  keeping false w = same refl w

  pub writing : (temp : Bool) (f : Expression)
      → Wrote l a l' a' (start temp ⊕ lit "float4((" ⊕ expression_text i textured e ⊕ lit ").rgb, (" ⊕ expression_text i textured f ⊕ lit ").a);\n")
      → Wrote l a l' a' (line_text i textured temp e (Written f))
  unfolding line_text
  writing true f w = same refl w
  writing false f w = same refl w
