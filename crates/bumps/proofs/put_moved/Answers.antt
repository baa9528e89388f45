-- The coordinate, and the four entries of the matrix with what is done with each.
use Rattle.text.proofs.Laws.{◌⨾◌, same}
use Rattle.shader.specs.Lookups.{coordinate_text}
use Rattle.bumps.proofs.Lines.{moves}
use Rattle.bumps.proofs.put_moved.Goals as goal

pub returns : goal.returns
returns c =
    same (moves c.args.n (coordinate_text c.args.i c.args.base))
    (c.put_coordinate-p.ensures ⨾ c.put-p.ensures.written ⨾ c.put_entry-p.ensures ⨾ c.put_entry-p-2.ensures ⨾ c.put_entry-p-3.ensures
    ⨾ c.put_entry.ensures)
