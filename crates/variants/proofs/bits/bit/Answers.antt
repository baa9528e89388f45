-- From 16 on the power of two that divides is greater than the mask, and nothing is left of it.
use Rattle.std.proofs.Common.{arith, ◌≡◌, ℕ, ◌^◌, ◌<◌, ◌≤◌, false, sym, ◌∙◌}
use native.Mathlib.Nat.{div-eq_of_lt, lt_of_lt_of_le, pow-le-pow_right}
use borrow.Author.Tests.{le-ltb}
use Rattle.combiners.specs.Codes.{bit}
use Rattle.variants.proofs.bits.bit.Goals as goal

behind : (mask i : ℕ) → mask < 2 ^ 16 → 16 ≤ i → bit mask i ≡ false
behind mask i l h = rw (div-eq_of_lt (lt_of_lt_of_le l (pow-le-pow_right {n = 2} (omega arith) h)))

pub returns-else-i-lt-BITS : goal.returns-else-i-lt-BITS
returns-else-i-lt-BITS c = le-ltb _ _ c.if-i-lt-BITS.false ∙ sym (behind _ _ (omega arith) c.if-i-lt-BITS.false)
