-- Each part is given behind those before it, and the first that is refused is the last.
use Rattle.printout.proofs.Printed.{step_within}
use Rattle.printout.proofs.Loops.{gave_step, refused_as}
use Rattle.printout.proofs.print_through.Goals as goal

pub returns-in_err-give-clause-refused : goal.returns-in_err-give-clause-refused
returns-in_err-give-clause-refused g c =
    let v = c.loop-next.invariant in
    let e = c.step-printed.ensures in
    let k = gave_step c.args.input.now c.loop-next.text c.loop-next.line v.gave c.in-Some.is v.within e.answer e.line e.text in
    refused_as c.from_residual.result (c.in_err-give.ensures.refused _ _ _ k) c.from_residual.ensures.1

pub returns-in_err-give-2-clause-refused : goal.returns-in_err-give-2-clause-refused
returns-in_err-give-2-clause-refused g c =
    let v = c.loop-next.invariant in
    let e = c.step-printed.ensures in
    let k = gave_step c.args.input.now c.loop-next.text c.loop-next.line v.gave c.in-Some.is v.within e.answer e.line e.text in
    let lined = c.in_ok-give.ensures.accepted _ _ _ k in
    refused_as c.from_residual-in_err-give-2.result (c.in_err-give-2.ensures.refused _ _ _ lined) c.from_residual-in_err-give-2.ensures.1

pub loop-next-preserved : goal.loop-next-preserved
loop-next-preserved g c =
    let v = c.loop-next.invariant in
    let e = c.step-printed.ensures in
    let k = gave_step c.args.input.now c.loop-next.text c.loop-next.line v.gave c.in-Some.is v.within e.answer e.line e.text in
    record {
      callable = c.in_ok-give-2.ensures.callable;
      within = step_within c.args.input.now c.loop-next.text c.in-Some.is v.within e.answer;
      gave = c.in_ok-give-2.ensures.accepted _ _ _ (c.in_ok-give.ensures.accepted _ _ _ k);
    }
