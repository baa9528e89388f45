-- The stages of another kind are those that seven bytes say of each.
use Rattle.std.proofs.Common.{arith, rules, ◌<◌, ℕ, length}
use Rattle.values.specs.Kinds.{seven_bytes}
use Rattle.states.specs.States.{wide_stages, default_stage}
use Rattle.states.proofs.Widening.{mapped}
use Rattle.states.proofs.wide_stages.Goals as goal

pub returns-else-key : goal.returns-else-key
unfolding wide_stages
returns-else-key c =
    rw c.if-key.false
    (mapped seven_bytes c.args.key.stages c.map.result (search rules)
    (λ (i : ℕ) (h : i < length c.args.key.stages).
    let made = (c.map.ensures.items.at i (default_stage 1 1) (default_stage 1 1) (omega arith)).2 in search rules))
