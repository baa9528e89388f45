-- The pieces stand one behind another, and a line of the program fits its buffer.
use Rattle.std.proofs.Common.{◌≡◌, arith, append_assoc}
use Rattle.text.specs.Text.{lit}
use Rattle.text.proofs.Laws.{◌⨾◌, same}
use Rattle.printout.proofs.LineLaws.{emit_line_lem, next_number}
use Rattle.printout.proofs.lines.put_emit_line.Goals as goal

pub loop-n-preserved : goal.loop-n-preserved
loop-n-preserved c = next_number (lit "emit ") _ c.loop-n-test.true c.loop-n.invariant (c.put_decimal-p.ensures ⨾ c.put-p-in-loop-n.ensures.written)

pub returns : goal.returns
returns c =
    let k : c.loop-n.n-index ≡ 6 = omega arith in
    let w = rw k at c.loop-n.invariant in
    let line = emit_line_lem c.args.emitted (same (simp append_assoc) (w ⨾ c.put_either-p.ensures.written ⨾ c.put.ensures.written)) c.told-line in
    record { length = line.0; line = line.1 }
