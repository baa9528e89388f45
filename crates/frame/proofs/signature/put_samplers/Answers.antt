-- A turn writes the parameters of one stage more; with no stage left all are written.
use Rattle.frame.proofs.Samplers.{samplers_turn, samplers_end}
use Rattle.frame.proofs.signature.put_samplers.Goals as goal

pub loop-i-init : goal.loop-i-init
loop-i-init c = λ out' p' w. w

pub loop-i-preserved : goal.loop-i-preserved
loop-i-preserved c =
    samplers_turn c.args.v _ c.loop-i.i _ c.loop-i-test.true c.loop-i.invariant
    (rw (c.textured.ensures, c.new.ensures) at c.put_sampler-p.ensures)

pub returns : goal.returns
returns c = rw (← c.active-stage-items.ensures.stages) (samplers_end c.args.v _ c.loop-i.i c.loop-i-test.false c.loop-i.invariant)
