-- The texel's name, the scaled luminance, the row and the line's end.
use Rattle.text.proofs.Laws.{◌⨾◌, same}
use Rattle.bumps.proofs.Lines.{lights}
use Rattle.bumps.proofs.put_luminance_line.Goals as goal

pub returns : goal.returns
returns c =
    same (lights c.args.b.now.textured c.args.i c.args.b.now.stage)
    (c.put_staged-p.ensures.written ⨾ c.put_scaled-p.ensures ⨾ c.put_luminance_row-p.ensures ⨾ c.put.ensures.written)
