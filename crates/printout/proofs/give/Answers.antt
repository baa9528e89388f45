-- A part that the closure accepts is one more.
use Rattle.printout.proofs.Loops.{part_accepted}
use Rattle.printout.proofs.give.Goals as goal

pub returns-clause-accepted : goal.returns-clause-accepted
returns-clause-accepted g c = part_accepted c.print.result c.print.ensures
