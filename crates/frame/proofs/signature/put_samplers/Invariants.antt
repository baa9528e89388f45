-- What the stages from i on still write makes, behind what is written, the parameters of all.
use Rattle.frame.proofs.Samplers.{SamplersFrom}
use Rattle.frame.proofs.signature.put_samplers.Given as goal

abbrev pub invariant-loop-i : goal.invariant-loop-i
invariant-loop-i l = SamplersFrom l.v l.stage-items l.fn.out l.at l.out l.p l.i
