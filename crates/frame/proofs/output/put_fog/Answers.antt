-- With a table mode the depth, the factor and the line that mixes.
use borrow.Author.Tests.{ne_eqb}
use Rattle.text.proofs.Laws.{◌⨾◌, pick_false}
use Rattle.shader.specs.Output.{fog_text}
use Rattle.frame.proofs.output.put_fog.Goals as goal

pub returns-else-v-eq-D3DFOG_NONE : goal.returns-else-v-eq-D3DFOG_NONE
unfolding fog_text
returns-else-v-eq-D3DFOG_NONE c =
    rw (← c.has.ensures)
    (pick_false (ne_eqb _ _ c.if-v-eq-D3DFOG_NONE.false)
    (c.put_fog_depth-p.ensures ⨾ c.put_fog_factor-p.ensures ⨾ c.put.ensures.written))
