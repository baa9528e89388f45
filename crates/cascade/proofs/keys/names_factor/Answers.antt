-- The two ops and the arguments of each combiner are asked one by one.
use Rattle.std.proofs.Common.{rules}
use Rattle.combiners.specs.Codes.{factor}
use Rattle.cascade.specs.Keys.{selects, names_factor}
use Rattle.cascade.proofs.keys.names_factor.Goals as goal

pub returns : goal.returns
unfolding names_factor
returns c =
    rw (
      c.blends_by_factor.ensures,
      c.some.ensures (selects factor) (λ a r h. search rules),
      c.some-2.ensures (selects factor) (λ a r h. search rules),
    )
