-- The line of a sample: the coordinate and the bias.
use Rattle.text.proofs.Laws.{◌⨾◌, same}
use Rattle.lookups.proofs.Lines.{sampled}
use Rattle.lookups.proofs.samples.put_plain_line.Goals as goal

pub returns : goal.returns
returns c =
    same (sampled c.args.three c.args.s.lod c.args.s.projected c.args.s.stage c.args.c)
    (c.put_staged-p.ensures.written ⨾ c.put_uv-p.ensures ⨾ c.put_bias-p.ensures ⨾ c.put.ensures.written)
