-- Bounds on the length of a text: the longer of two alternatives, whichever the test picks.
use Prim.Native.Nat.{ℕ, ◌+◌, ◌≤◌, max}
use mathlib.Core.Bool.{true, false}
use native.Mathlib.Omega.{arith}
use lib.ListN.{length}
use Rattle.text.specs.Text.{Text, raw, ◌⊕◌, pick, size}

abbrev pub most : Text → ℕ
most (raw x) = length x
most (s ⊕ t) = most s + most t
most (pick b s t) = max (most s) (most t)

pub size_most : (t : Text) → size t ≤ most t
size_most (raw x) = omega arith
size_most (s ⊕ t) = omega (arith, size_most s, size_most t)
size_most (pick true s t) = omega (arith, size_most s)
size_most (pick false s t) = omega (arith, size_most t)
