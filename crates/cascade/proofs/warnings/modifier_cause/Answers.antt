-- The test is asked of each argument.
use Rattle.std.proofs.Common.{rules}
use Rattle.combiners.specs.Warnings.{unknown_modifier}
use Rattle.cascade.proofs.warnings.modifier_cause.Goals as goal

pub returns : goal.returns
returns c = c.some.ensures unknown_modifier (λ a r h. search rules)
