-- The invariant: the stages from i on are still to be written (`AtStage`).
use Rattle.function.proofs.Loops.{AtStage}
use Rattle.function.proofs.stages.put_stages.Given as goal

abbrev pub invariant-loop-i : goal.invariant-loop-i
invariant-loop-i l =
    AtStage l.v l.s.key.projected l.alive l.stage-items l.fn.out l.at l.out l.place.at l.before l.i l.place.lookups
