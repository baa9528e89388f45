-- The stages passed are written, one behind another.
use Rattle.std.proofs.Common.{take}
use Rattle.text.specs.Text.{raw}
use Rattle.text.specs.Buffer.{Wrote}
use Rattle.wire.specs.Bodies.{stages_bytes}
use Rattle.wire.proofs.writer.put_stages.Given as goal

abbrev pub invariant-loop-s : goal.invariant-loop-s
invariant-loop-s l = Wrote l.fn.out l.at l.out l.p (raw (stages_bytes l.wide (take l.s-index l.stages)))
