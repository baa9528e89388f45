-- The number in square brackets behind the name.
use Rattle.text.proofs.Laws.{texts}
use Rattle.shader.specs.Lookups.{bump_row}
use Rattle.bumps.proofs.put_bump_row.Goals as goal

pub returns : goal.returns
unfolding bump_row
returns c = search texts
