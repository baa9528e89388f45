-- The lines around bump stages, put together as they are written: a numbered text, what varies, and how the line ends.
use Prim.Native.Nat.{ℕ, ◌+◌, ◌*◌}
use mathlib.Core.Bool.{Bool}
use mathlib.Core.Path.{◌≡◌, refl, ap, sym}
use mathlib.Core.List.{List, ◌++◌, append_assoc}
use Rattle.text.specs.Text.{Text, bytes, lit, when, flat, ◌⊕◌}
use Rattle.text.specs.Marks.{numbered}
use Rattle.combiners.specs.Arguments.{texel_name}
use Rattle.shader.specs.Lookups.{coordinate_text, bump_row, offset_text, moved_text, displaced_line, luminance_line}
use Rattle.shader.specs.declared.Coordinate.{Coordinate}

offsets : (r a b c s t e : List ℕ)
    → (r ++ (a ++ (r ++ b))) ++ (c ++ ((r ++ (s ++ (r ++ t))) ++ e)) ≡ (r ++ a) ++ ((r ++ (b ++ c)) ++ ((r ++ s) ++ (r ++ (t ++ e))))
offsets r a b c s t e = simp append_assoc

pub moves : (n : ℕ) (tc : Text)
    → flat (tc ⊕ lit ".xy + float2(" ⊕ (bump_row (2 * n) ⊕ numbered n (bytes ".x * t#.x + ")) ⊕ (bump_row (2 * n) ⊕ numbered n (bytes ".z * t#.y, "))
    ⊕ (bump_row (2 * n) ⊕ numbered n (bytes ".y * t#.x + ")) ⊕ bump_row (2 * n) ⊕ numbered n (bytes ".w * t#.y)"))
    ≡ flat (moved_text n tc)
unfolding moved_text offset_text texel_name
moves n tc =
    ap (λ (r : List ℕ). flat tc ++ (bytes ".xy + float2(" ++ r))
    (sym (offsets (flat (bump_row (2 * n))) (flat (numbered n (bytes ".x * t#.x + "))) (flat (numbered n (bytes ".z * t#.y"))) (bytes ", ")
    (flat (numbered n (bytes ".y * t#.x + "))) (flat (numbered n (bytes ".w * t#.y"))) (bytes ")")))

pub displaces : (i n : ℕ) (c : Coordinate)
    → flat (numbered i (bytes "    float4 bc# = float4(") ⊕ moved_text n (coordinate_text i c) ⊕ lit ", " ⊕ coordinate_text i c ⊕ lit ".zw);\n")
    ≡ flat (displaced_line i n c)
unfolding displaced_line coordinate_text
displaces i n c = refl

pub lights : (tex : Bool) (i n : ℕ)
    → flat (numbered i (bytes "    t# *= saturate(") ⊕ when tex (texel_name n ⊕ lit ".z * " ⊕ bump_row (2 * n + 1) ⊕ lit ".x + ")
    ⊕ bump_row (2 * n + 1) ⊕ lit ".y);\n")
    ≡ flat (luminance_line tex i n)
unfolding luminance_line texel_name
lights tex i n = refl
