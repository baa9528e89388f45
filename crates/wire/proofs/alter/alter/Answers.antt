-- The stage that the write names is read, altered and laid over its bytes, which makes the body that of the altered key.
use Rattle.std.proofs.Common.{arith}
use Rattle.states.proofs.Accepted.{free, takes_byte}
use Rattle.wire.proofs.Altered.{altered_body, stage_within}
use Rattle.wire.proofs.alter.alter.Goals as goal

pub stage_at-before-requires : goal.stage_at-before-requires
stage_at-before-requires c =
    let i = (free c.args.write c.requires.taken).stage in
    rw c.stage_size.ensures (omega (arith, stage_within c.args.wide c.args.write.stage i, c.requires.whole))

pub overflow_cast-write : goal.overflow_cast-write
overflow_cast-write c =
    let w = c.args.write in
    omega (arith, takes_byte w.state w.value (free w c.requires.taken).value)

pub returns : goal.returns
returns c =
    let written = rw (c.set_stage-after.ensures, c.stage_at-before.ensures, c.stage_size.ensures) at c.put_stage.ensures in
    altered_body c.args.wide c.args.body.now c.args.write c.requires written
