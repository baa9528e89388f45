-- Each arm writes the parameter with the type that it matched.
use Rattle.std.proofs.Common.{refl}
use Rattle.text.proofs.Laws.{same}
use Rattle.frame.proofs.signature.put_texture.Goals as goal

pub returns-in-Depth : goal.returns-in-Depth
returns-in-Depth c = rw c.in-Depth.is (same refl c.put_staged.ensures.written)

pub returns-in-Volume : goal.returns-in-Volume
returns-in-Volume c = rw c.in-Volume.is (same refl c.put_staged-in-Volume.ensures.written)

pub returns-in-Cube : goal.returns-in-Cube
returns-in-Cube c = rw c.in-Cube.is (same refl c.put_staged-in-Cube.ensures.written)

pub returns-in-Flat : goal.returns-in-Flat
returns-in-Flat c = rw c.in-Flat.is (same refl c.put_staged-in-Flat.ensures.written)
