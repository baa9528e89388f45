-- The name, the tested quotient and the zero behind it.
use Rattle.text.proofs.Laws.{◌⨾◌, same}
use Rattle.shader.specs.Lookups.{coordinate_text}
use Rattle.lookups.proofs.Lines.{projects}
use Rattle.lookups.proofs.samples.put_projected_line.Goals as goal

pub returns : goal.returns
returns c =
    same (projects c.args.i (coordinate_text c.args.i c.args.c))
    (c.put_staged-p.ensures.written ⨾ c.put_tested_quotient-p.ensures ⨾ c.put.ensures.written)
