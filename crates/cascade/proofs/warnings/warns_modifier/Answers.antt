-- The cause is an argument's.
use Rattle.std.proofs.Common.{rules}
use Rattle.combiners.specs.Warnings.{modifier_cause}
use Rattle.cascade.specs.Walks.{gives, warns}
use Rattle.cascade.proofs.warnings.warns_modifier.Goals as goal

pub returns : goal.returns
unfolding warns
returns c = c.applies.ensures (gives modifier_cause) (λ k r h. search rules)
