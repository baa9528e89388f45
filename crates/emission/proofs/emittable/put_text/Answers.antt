-- A buffer as long as the longest text takes the text at once; for a shorter one the text is written aside, and copied from there if it fits.
use Rattle.std.proofs.Common.{arith, rules}
use native.Mathlib.Nat.{le_trans}
use Rattle.emission.proofs.Answers.{most_text, placed, copied}
use Rattle.emission.proofs.emittable.put_text.Goals as goal

pub returns-then-takes_any : goal.returns-then-takes_any
returns-then-takes_any c =
    let fits = le_trans (most_text c.args.s.key c.args.v c.args.e (search rules) (omega arith) c.requires) c.if-takes_any.true in
    let p = placed _ _ _ c.put_whole.ensures.wrote fits in
    record { place = (p.0, c.put_whole.ensures.lookups_value); fits = (fits, p.1); over = tt }

pub returns-clause-fits : goal.returns-clause-fits
returns-clause-fits c = copied _ _ _ c.put_whole-w.ensures.wrote (omega arith) (omega arith) c.put.ensures.written
