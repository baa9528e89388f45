-- The record's number, then 8 for want of room; else the bytes of the record are copied, which are those that the writer writes.
use Rattle.std.proofs.Common.{rules, sym}
use Rattle.std.proofs.Math.Seq.{length-take-le}
use Rattle.wire.proofs.Bodies.{Bytes}
use Rattle.yuzuknoll.proofs.Checking.{kind_told}
use Rattle.yuzuknoll.proofs.Records.{bytes_within, write_over, write_copied}
use Rattle.yuzuknoll.proofs.write.write.Goals as goal

pub returns-then-out-n-clause-number : goal.returns-then-out-n-clause-number
returns-then-out-n-clause-number c =
    let z = sym (rw c.in_ok-kind.was at c.record_kind.ensures.number) in
    let k = kind_told _ (rw c.in_ok-kind.was at c.record_kind.ensures.kind) in
    (write_over _ _ c.args.record.now z k c.record_length-n.ensures c.if-out-n.true).0

pub slice_bounds-put-end : goal.slice_bounds-put-end
slice_bounds-put-end c =
    let z = sym (rw c.in_ok-kind.was at c.record_kind.ensures.number) in
    let k = kind_told _ (rw c.in_ok-kind.was at c.record_kind.ensures.kind) in
    sym (length-take-le _ _ (bytes_within _ z k c.record_length-n.ensures))

pub returns-clause-number : goal.returns-clause-number
returns-clause-number c =
    let z = sym (rw c.in_ok-kind.was at c.record_kind.ensures.number) in
    let k = kind_told _ (rw c.in_ok-kind.was at c.record_kind.ensures.kind) in
    let bytes : Bytes c.args.bytes.now = search rules in
    (write_copied c.args.bytes.now _ c.args.record.now z k c.record_length-n.ensures bytes c.if-out-n.false c.put.ensures.written c.record_numbers.ensures).0

pub returns-clause-buffer : goal.returns-clause-buffer
returns-clause-buffer c =
    let z = sym (rw c.in_ok-kind.was at c.record_kind.ensures.number) in
    let k = kind_told _ (rw c.in_ok-kind.was at c.record_kind.ensures.kind) in
    let bytes : Bytes c.args.bytes.now = search rules in
    (write_copied c.args.bytes.now _ c.args.record.now z k c.record_length-n.ensures bytes c.if-out-n.false c.put.ensures.written c.record_numbers.ensures).1.0
