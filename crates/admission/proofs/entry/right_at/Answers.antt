-- The tests of a place exclude each other, so that one of them decides.
use Rattle.admission.specs.Pass.{right}
use Rattle.admission.proofs.Passes.{chosen}
use Rattle.admission.proofs.entry.right_at.Goals as goal

pub returns : goal.returns
unfolding right
returns c = rw (c.continues_name.ensures, c.starts_name.ensures) (simp chosen)
