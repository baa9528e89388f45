-- The test of w, and behind it the quotient: the coordinate, ` / ` and its w.
use Rattle.text.proofs.Laws.{◌⨾◌, regroup_three}
use Rattle.shader.specs.Lookups.{quotient_text}
use Rattle.lookups.proofs.coordinates.put_tested_quotient.Goals as goal

pub returns : goal.returns
unfolding quotient_text
returns c =
    c.put_coordinate-p.ensures ⨾ c.put-p.ensures.written
    ⨾ regroup_three (c.put_swizzled-p.ensures ⨾ c.put-p-2.ensures.written ⨾ c.put_coordinate-p-2.ensures ⨾ c.put.ensures.written)
