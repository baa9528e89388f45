-- The numbers so far are written, with a space behind each.
use Rattle.std.proofs.Common.{take}
use Rattle.text.specs.Text.{lit}
use Rattle.text.specs.Buffer.{Wrote}
use Rattle.printout.proofs.LineLaws.{spaced}
use Rattle.printout.proofs.lines.put_emit_line.Given as goal

abbrev pub invariant-loop-n : goal.invariant-loop-n
invariant-loop-n l = Wrote l.fn.line 0 l.line l.p (spaced (lit "emit ") (take l.n-index l.n-items))
