-- The line of a depth comparison: the coordinate, its saturated depth, the level.
use Rattle.text.proofs.Laws.{◌⨾◌, same}
use Rattle.shader.specs.Lookups.{coordinate_text}
use Rattle.lookups.proofs.Lines.{compared}
use Rattle.lookups.proofs.samples.put_compare_line.Goals as goal

pub returns : goal.returns
returns c =
    same (compared c.args.s.lod c.args.s.stage (coordinate_text c.args.s.stage c.args.c))
    (c.put_staged-p.ensures.written ⨾ c.put_coordinate-p.ensures ⨾ c.put-p.ensures.written ⨾ c.put_coordinate-p-2.ensures
    ⨾ c.put-p-2.ensures.written ⨾ c.put_level-p.ensures ⨾ c.put.ensures.written)
