-- Where the variant tests, the comparison stands between the two halves of the line; else nothing is written.
use Rattle.std.proofs.Common.{sym, ◌∙◌}
use Rattle.text.proofs.Laws.{◌⨾◌, pick_true}
use Rattle.shader.specs.Output.{test_text}
use Rattle.frame.proofs.output.put_test.Goals as goal

pub returns-then-tested : goal.returns-then-tested
unfolding test_text
returns-then-tested c =
    pick_true (sym c.tested.ensures ∙ c.if-tested.true)
    (c.put-p.ensures.written ⨾ c.put_comparison-p.ensures ⨾ c.put.ensures.written)
