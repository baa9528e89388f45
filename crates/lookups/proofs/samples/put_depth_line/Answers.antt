-- The line of a depth fetch: the coordinate, the level, and the other components where the depth is in red alone.
use Rattle.text.proofs.Laws.{◌⨾◌, same}
use Rattle.lookups.proofs.Lines.{fetched}
use Rattle.lookups.proofs.samples.put_depth_line.Goals as goal

pub returns : goal.returns
returns c =
    same (fetched c.args.red c.args.s.lod c.args.s.projected c.args.s.stage c.args.c)
    (c.put_staged-p.ensures.written ⨾ c.put_uv-p.ensures ⨾ c.put-p.ensures.written ⨾ c.put_level-p.ensures
    ⨾ c.put_either.ensures.written)
