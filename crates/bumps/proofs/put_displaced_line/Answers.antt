-- The name, the coordinate moved, and its other two components.
use Rattle.text.proofs.Laws.{◌⨾◌, same}
use Rattle.bumps.proofs.Lines.{displaces}
use Rattle.bumps.proofs.put_displaced_line.Goals as goal

pub returns : goal.returns
returns c =
    same (displaces c.args.i c.args.n c.args.base)
    (c.put_staged-p.ensures.written ⨾ c.put_moved-p.ensures ⨾ c.put-p.ensures.written ⨾ c.put_coordinate-p.ensures
    ⨾ c.put.ensures.written)
