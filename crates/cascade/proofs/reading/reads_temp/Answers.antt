-- The expression that reads TEMP is asked for by its rule.
use Rattle.std.proofs.Common.{rules}
use Rattle.cascade.specs.Reading.{reads_temp_by, reads_temp}
use Rattle.cascade.proofs.reading.reads_temp.Goals as goal

pub returns : goal.returns
unfolding reads_temp
returns c = c.some_expression.ensures reads_temp_by (λ t k r h. search rules)
