-- One more stage is written behind those that were, and at the end all of them are.
use Rattle.std.proofs.Common.{arith, ap}
use Rattle.std.proofs.Math.Seq.{take_all}
use Rattle.text.proofs.Laws.{◌⨾◌, same, nothing}
use Rattle.wire.specs.Bodies.{stages_bytes}
use Rattle.wire.proofs.Laws.{stage_bytes_more}
use Rattle.wire.proofs.writer.put_stages.Goals as goal

pub loop-s-init : goal.loop-s-init
unfolding stages_bytes
loop-s-init c = nothing _ _

pub loop-s-preserved : goal.loop-s-preserved
loop-s-preserved c =
    same (stage_bytes_more c.args.wide c.args.stages.now c.loop-s.s-index _ (omega arith)) (c.loop-s.invariant ⨾ c.put_stage-p.ensures)

pub returns : goal.returns
returns c = same (ap (stages_bytes c.args.wide) (take_all c.loop-s.s-index c.args.stages.now (omega arith))) c.loop-s.invariant
