-- A stage is plain where both combiners are.
use Rattle.std.proofs.lemmas.Bool.{and_parts}
use Rattle.cascade.proofs.PlainStages.{plain_stage}
use Rattle.cascade.proofs.plain.is_plain.Goals as goal

pub returns : goal.returns
returns c e =
    let t = and_parts c.plain_combiner.result c.plain_combiner-2.result e in
    plain_stage _ (c.plain_combiner.ensures t.0) (c.plain_combiner-2.ensures t.1)
