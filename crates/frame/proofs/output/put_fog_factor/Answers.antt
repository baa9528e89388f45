-- The table mode that an arm matched settles the choices of `fog_factor_text`.
use Rattle.std.proofs.Common.{refl, arith}
use borrow.Author.Tests.{ne_eqb}
use Rattle.text.proofs.Laws.{same, pick_false}
use Rattle.shader.specs.Output.{fog_factor_text}
use Rattle.frame.proofs.output.put_fog_factor.Goals as goal

pub returns-in-1 : goal.returns-in-1
unfolding fog_factor_text
returns-in-1 c = rw c.in-1.is (same refl c.put.ensures.written)

pub returns-in-2 : goal.returns-in-2
unfolding fog_factor_text
returns-in-2 c = rw c.in-2.is (same refl c.put-in-2.ensures.written)

pub returns-in_default : goal.returns-in_default
unfolding fog_factor_text
returns-in_default c =
    pick_false (ne_eqb c.args.mode 1 (λ e. omega arith))
    (pick_false (ne_eqb c.args.mode 2 (λ e. omega arith)) (same refl c.put-in_default.ensures.written))
