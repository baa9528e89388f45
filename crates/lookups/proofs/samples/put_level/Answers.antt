-- The level of the flag, whose text is longer than the search computes.
use Rattle.std.proofs.Common.{refl}
use Rattle.text.proofs.Laws.{same, pick_true}
use Rattle.shader.specs.Lookups.{lod_row, level_text}
use Rattle.lookups.proofs.samples.put_level.Goals as goal

pub returns-then-lod : goal.returns-then-lod
unfolding level_text lod_row
returns-then-lod c = pick_true c.if-lod.true (same refl c.put_staged.ensures.written)
