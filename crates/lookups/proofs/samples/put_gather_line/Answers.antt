-- The line of a gather: the coordinate, half a texel, the component.
use Rattle.text.proofs.Laws.{◌⨾◌, same}
use Rattle.shader.specs.Lookups.{coordinate_text}
use Rattle.lookups.proofs.Lines.{gathered}
use Rattle.lookups.proofs.samples.put_gather_line.Goals as goal

pub returns : goal.returns
returns c =
    same (gathered c.args.alpha c.args.s.projected c.args.s.stage (coordinate_text c.args.s.stage c.args.c))
    (c.put_staged-p.ensures.written ⨾ c.put_uv-p.ensures ⨾ c.put_staged-p-2.ensures.written ⨾ c.put_when-p.ensures.written
    ⨾ c.put.ensures.written)
