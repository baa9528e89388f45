-- With a sample mask the struct of colour and mask is returned, without one the colour.
use Rattle.std.proofs.Common.{sym, ◌∙◌}
use Rattle.text.proofs.Laws.{◌⨾◌, pick_true, pick_false}
use Rattle.shader.specs.Output.{return_text}
use Rattle.frame.proofs.output.put_return.Goals as goal

pub returns-then-has : goal.returns-then-has
unfolding return_text
returns-then-has c =
    pick_true (sym c.has.ensures ∙ c.if-has.true)
    (c.put-p.ensures.written ⨾ c.put_decimal-p.ensures ⨾ c.put.ensures.written)

pub returns-else-has : goal.returns-else-has
unfolding return_text
returns-else-has c = pick_false (sym c.has.ensures ∙ c.if-has.false) c.put-else-has.ensures.written
