-- The stages of kind 1 are mapped one by one.
use Rattle.std.proofs.Common.{arith, rules, ◌<◌, ℕ, length, map}
use Rattle.std.proofs.lemmas.List.{same_lists, get_or-map, length-map}
use Rattle.cascade.specs.Effective.{narrow_stage, effective_stages}
use Rattle.values.specs.declared.Stage.{Stage}
use Rattle.cascade.proofs.effective.effective_stages.Goals as goal

pub returns-else-k : goal.returns-else-k
unfolding effective_stages
returns-else-k c =
    rw c.if-k.false
    (same_lists c.map.result (map narrow_stage c.args.k.stages) (rw length-map (search rules))
    (λ (i : ℕ) (d : Stage) (h : i < length c.map.result).
    let w : i < length c.args.k.stages = omega arith in
    let made = (c.map.ensures.items.at i d d (omega arith)).2 in rw (get_or-map narrow_stage c.args.k.stages i d d w) (search rules)))
