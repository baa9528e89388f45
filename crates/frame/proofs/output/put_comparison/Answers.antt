-- The code that an arm matched settles the choices of `comparison_text`.
use Rattle.std.proofs.Common.{refl}
use Rattle.text.proofs.Laws.{texts, same}
use Rattle.shader.specs.Output.{comparison_text}
use Rattle.frame.proofs.output.put_comparison.Goals as goal

pub returns-in-3 : goal.returns-in-3
unfolding comparison_text
returns-in-3 c = rw c.in-3.is (same refl c.put-in-3.ensures.written)

pub returns-in-4 : goal.returns-in-4
unfolding comparison_text
returns-in-4 c = rw c.in-4.is (same refl c.put-in-4.ensures.written)

pub returns-in-6 : goal.returns-in-6
unfolding comparison_text
returns-in-6 c = rw c.in-6.is (same refl c.put-in-6.ensures.written)

pub returns-in-7 : goal.returns-in-7
unfolding comparison_text
returns-in-7 c = rw c.in-7.is (same refl c.put-in-7.ensures.written)

pub returns-in_default : goal.returns-in_default
unfolding comparison_text
returns-in_default c = search (texts, c.in_default, c.put-in_default.ensures.written) depth 10
