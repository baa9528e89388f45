-- The record's number; where it is 0, what was done is reported.
use Rattle.std.proofs.Common.{rules, refl, sym}
use Rattle.inspection.proofs.Numbers.{not_zero}
use Rattle.yuzuknoll.proofs.Checking.{kind_told}
use Rattle.yuzuknoll.proofs.Applying.{done_refused, done_applied}
use Rattle.yuzuknoll.proofs.apply.apply.Goals as goal

pub returns-in_err-do_record-clause-number : goal.returns-in_err-do_record-clause-number
returns-in_err-do_record-clause-number c =
    let a = c.args in
    let z = sym (rw c.in_ok-kind.was at c.record_kind.ensures.number) in
    let k = kind_told _ (rw c.in_ok-kind.was at c.record_kind.ensures.kind) in
    let s = rw c.in_err-do_record.was at c.do_record.ensures in
    let n = (done_refused a.held.now a.bytes.now a.text.now a.applied.now z k (s.number, (s.held, (s.text, (s.res, s.names)))) (not_zero _)).0 in
    search (rules, n)

pub returns : goal.returns
returns c =
    let a = c.args in
    let z = sym (rw c.in_ok-kind.was at c.record_kind.ensures.number) in
    let k = kind_told _ (rw c.in_ok-kind.was at c.record_kind.ensures.kind) in
    let s = rw c.in_ok-do_record.was at c.do_record.ensures in
    let p = done_applied a.held.now a.bytes.now a.text.now a.applied.now z k (s.number, (s.held, (s.text, (s.res, s.names)))) refl c.report_applied.ensures in
    record { number = p.0; held = p.1.0; text = p.1.1.0; applied = p.1.1.1.0; names = p.1.1.1.1 }
