-- The first name, which is longer than the search computes.
use Rattle.std.proofs.Common.{refl}
use Rattle.text.proofs.Laws.{same}
use Rattle.shader.specs.Lookups.{coordinate_text}
use Rattle.lookups.proofs.coordinates.put_coordinate.Goals as goal

pub returns-in-Interpolated : goal.returns-in-Interpolated
unfolding coordinate_text
returns-in-Interpolated c = rw c.in-Interpolated.is (same refl c.put_staged.ensures.written)
