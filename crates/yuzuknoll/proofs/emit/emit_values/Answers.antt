-- By emission's promise of its answer, where it wrote a text.
use Rattle.yuzuknoll.proofs.Emitting.{emission_accepted}
use Rattle.yuzuknoll.proofs.emit.emit_values.Goals as goal

pub returns-clause-res : goal.returns-clause-res
returns-clause-res c =
    let a = c.args in
    let x = a.values.now in
    let p = c.emit.ensures in
    (emission_accepted x.key.now x.variant.now x.entry.now a.text.now a.res.now (p.answer, (p.buffer, (p.names, p.number))) c.in_ok-emitted.was
    c.report.ensures).1.1.0
