-- Numbers that depend on a test, and how they add up where tests are joined.
use Prim.Native.Nat.{ℕ, ◌+◌, ◌≤◌}
use mathlib.Core.Bool.{Bool, true, false, ◌&&◌, ◌||◌, cond}
use native.Mathlib.Omega.{arith}

-- 1 where the test holds
unfoldable pub flag : Bool → ℕ
flag true = 1
flag false = 0

pub flag_le : (b : Bool) → flag b ≤ 1
unfolding flag
flag_le true = omega arith
flag_le false = omega arith

pub cond_le : (b : Bool) (x y n : ℕ) → x ≤ n → y ≤ n → cond b x y ≤ n
cond_le true x y n h k = h
cond_le false x y n h k = k

pub or_le : (a b : Bool) → flag (a || b) ≤ flag a + flag b
unfolding flag
or_le true b = omega arith
or_le false b = omega arith

pub and_or_le : (t a b : Bool) → flag (t && (a || b)) ≤ flag (t && a) + flag (t && b)
unfolding flag
and_or_le true a b = or_le a b
and_or_le false a b = omega arith

pub and_le : (a b : Bool) → flag (a && b) ≤ flag b
unfolding flag
and_le true b = omega arith
and_le false b = omega arith

-- a number for a test that one of two others needs
pub either_le : (a x b : Bool) (n : ℕ) → cond ((a && x) || b) n 0 ≤ cond a n 0 + cond b n 0
either_le true true b n = omega arith
either_le true false b n = omega arith
either_le false x b n = omega arith
