-- A number below ten is its digit, and another has its last digit behind those of its tenth part.
use Prim.Native.Nat.{◌%◌}
use native.Mathlib.Omega.{arith}
use Rattle.text.proofs.Laws.{◌⨾◌, one_digit, only_digit, last_digit}
use Rattle.text.proofs.+put_decimal.Goals as goal

pub returns-then-n-lt10 : goal.returns-then-n-lt10
returns-then-n-lt10 t c = only_digit _ c.if-n-lt10.true (one_digit _ c.if-n-lt10.true c.put_digit.ensures.written)

pub returns : goal.returns
returns t c =
    last_digit _ c.if-n-lt10.false c.ranges.n.fits
    (c.put_decimal-a.ensures ⨾ one_digit (c.args.n % 10) (omega arith) c.put_digit-2.ensures.written)
