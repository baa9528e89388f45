-- With the flag the bias is the row's, without it nothing is written.
use Rattle.std.proofs.Common.{refl}
use Rattle.text.proofs.Laws.{same, pick_true}
use Rattle.shader.specs.Lookups.{lod_row}
use Rattle.lookups.proofs.samples.put_bias.Goals as goal

pub returns-then-lod : goal.returns-then-lod
unfolding lod_row
returns-then-lod c = pick_true c.if-lod.true (same refl c.put_staged.ensures.written)
