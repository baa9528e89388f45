-- The test is asked of each argument.
use Rattle.std.proofs.Common.{rules}
use Rattle.combiners.specs.Warnings.{unknown_selector}
use Rattle.cascade.proofs.warnings.selector_cause.Goals as goal

pub returns : goal.returns
returns c = c.some.ensures unknown_selector (λ a r h. search rules)
