-- The expression that reads the texel is asked for by its rule.
use Rattle.std.proofs.Common.{rules}
use Rattle.cascade.specs.Reading.{reads_texel_by, reads_texel}
use Rattle.cascade.proofs.reading.reads_texel.Goals as goal

pub returns : goal.returns
unfolding reads_texel
returns c = c.some_expression.ensures reads_texel_by (λ t k r h. search rules)
