-- A write that is not refused is accepted, so its stage is one of the eight and its value a byte; a refused one leaves the key.
use Rattle.std.proofs.Common.{arith, rules, ◌≡◌, length, sym, refl}
use Rattle.states.specs.States.{default_stage, set_state, stages_for}
use Rattle.states.specs.Writes.{write_applied}
use Rattle.states.proofs.Stages.{get_or_there}
use Rattle.states.proofs.Widening.{for_length}
use Rattle.states.proofs.Accepted.{accepted_stage, is_accepted, is_refused}
use Rattle.states.proofs.set.Goals as goal

pub returns-in_default : goal.returns-in_default
unfolding write_applied
returns-in_default c = rw (is_refused c.args.write (sym c.in_default.ensures) refl)

pub returns : goal.returns
unfolding write_applied set_state
returns c =
    let w = c.args.write in
    let k = c.args.key in
    let e = c.in-Ok.ensures in
    let good = is_accepted w (sym e.1) refl in
    let eight : length k.stages ≡ 8 = search rules in
    rw (good, c.sets_arg0.ensures, c.set.ensures, c.stages_for-stages.ensures, e.0)
    (rw (get_or_there (stages_for w.state k) w.stage _ (default_stage 1 1) (omega (arith, eight, accepted_stage w e.1, for_length w.state k))))
