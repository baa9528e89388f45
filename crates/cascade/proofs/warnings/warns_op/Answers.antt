-- The cause is the op's.
use Rattle.std.proofs.Common.{rules}
use Rattle.combiners.specs.Warnings.{op_cause}
use Rattle.cascade.specs.Walks.{gives, warns}
use Rattle.cascade.proofs.warnings.warns_op.Goals as goal

pub returns : goal.returns
unfolding warns
returns c = c.applies.ensures (gives op_cause) (λ k r h. search rules)
