-- The stage is one of the eight, so what is held for it is a stage of the key.
use Rattle.std.proofs.Common.{arith, rules, ◌≡◌, length}
use borrow.Author.Tests.{le-ltb}
use Rattle.states.specs.States.{default_stage, get_state}
use Rattle.states.specs.Writes.{got_state}
use Rattle.states.proofs.Stages.{get_or_there, named_type}
use Rattle.states.proofs.Widening.{wide_stage}
use Rattle.states.proofs.get.Goals as goal

pub returns : goal.returns
unfolding got_state get_state
returns c =
    let k = c.args.key in
    let eight : length k.stages ≡ 8 = search rules in
    let n = c.in_ok-state.ensures in
    let e = named_type c.args.state c.in_ok-state.state n in
    rw (le-ltb _ _ c.if-stage-gt-LAST_STAGE.false, e, c.of.ensures, n, c.wide_stage-held.ensures, wide_stage c.args.stage k)
    (rw (get_or_there k.stages c.args.stage _ (default_stage 1 1) (omega (arith, eight))))
