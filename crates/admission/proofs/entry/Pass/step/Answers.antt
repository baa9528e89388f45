-- Each number of the state by what its callee promises.
use Rattle.admission.specs.Pass.{pass_stepped}
use Rattle.admission.proofs.entry.Pass.step.Goals as goal

pub returns : goal.returns
unfolding pass_stepped
returns c = rw (c.select_unpredictable-2.ensures, c.right_at-right.ensures, c.select_unpredictable.ensures)
