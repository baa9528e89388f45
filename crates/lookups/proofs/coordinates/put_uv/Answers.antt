-- Projected, the coordinate is the tested quotient in brackets; else it is swizzled as it is.
use Rattle.text.proofs.Laws.{◌⨾◌, regroup_three, pick_true}
use Rattle.shader.specs.Lookups.{uv_text}
use Rattle.lookups.proofs.Laws.{zeroed}
use Rattle.lookups.proofs.coordinates.put_uv.Goals as goal

pub returns-then-projected : goal.returns-then-projected
unfolding uv_text
returns-then-projected c =
    pick_true c.if-projected.true
    (c.put-p.ensures.written ⨾ regroup_three (c.put_tested_quotient-p.ensures ⨾ zeroed c.put_either.ensures.written))
