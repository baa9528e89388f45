-- One stage more is active, or the search ends here: the count is i and what is left of the list.
use Rattle.std.proofs.Common.{arith}
use Rattle.cascade.proofs.Active.{over, off, on}
use Rattle.cascade.proofs.keys.active_count.Goals as goal

pub loop-i-preserved : goal.loop-i-preserved
loop-i-preserved c =
    let v = c.loop-i.invariant in
    let more = on c.args.k.stages c.loop-i.i _ (omega arith) c.if-c-eq-D3DTOP_DISABLE.false in
    record { within = omega arith; eight = v.eight; counted = omega (arith, more, v.counted) }

pub returns-then-i-eq-STAGES : goal.returns-then-i-eq-STAGES
returns-then-i-eq-STAGES c = omega (arith, over c.args.k.stages c.loop-i.i (omega arith), c.loop-i.invariant.counted)

pub returns-then-c-eq-D3DTOP_DISABLE : goal.returns-then-c-eq-D3DTOP_DISABLE
returns-then-c-eq-D3DTOP_DISABLE c =
    omega (arith, off c.args.k.stages c.loop-i.i _ (omega arith) c.if-c-eq-D3DTOP_DISABLE.true, c.loop-i.invariant.counted)
