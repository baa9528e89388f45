-- An emit record emits, a state write alters the key, and any other is kept.
use Rattle.std.proofs.Common.{arith, rules, refl, sym, ap, ◌≤◌, length, ◌∙◌}
use Rattle.wire.specs.Bodies.{record_length}
use Rattle.yuzuknoll.specs.Applying.{held_with}
use Rattle.yuzuknoll.proofs.Records.{bytes_within}
use Rattle.yuzuknoll.proofs.Applying.{either_way, keeps, done_altered, done_kept}
use Rattle.yuzuknoll.proofs.Altering.{write_accepted, write_read}
use Rattle.yuzuknoll.proofs.apply.do_record.Goals as goal

pub returns-in-Emit-clause-held : goal.returns-in-Emit-clause-held
unfolding held_with
returns-in-Emit-clause-held c = rw c.in-Emit.is (either_way _ c.args.held.now)

pub slice_bounds-state_from_body-count : goal.slice_bounds-state_from_body-count
slice_bounds-state_from_body-count c =
    let within : 7 ≤ length c.args.bytes.now = bytes_within _ c.requires.number c.requires.kind (sym (ap record_length c.in-State.is)) in omega arith

pub slice_bounds-state_from_body-start : goal.slice_bounds-state_from_body-start
slice_bounds-state_from_body-start c =
    let within : 7 ≤ length c.args.bytes.now = bytes_within _ c.requires.number c.requires.kind (sym (ap record_length c.in-State.is)) in omega arith

pub state_from_body-requires : goal.state_from_body-requires
state_from_body-requires c =
    let within : 7 ≤ length c.args.bytes.now = bytes_within _ c.requires.number c.requires.kind (sym (ap record_length c.in-State.is)) in search rules

pub alter_held-requires : goal.alter_held-requires
alter_held-requires c =
    let within : 7 ≤ length c.args.bytes.now = bytes_within _ c.requires.number c.requires.kind (sym (ap record_length c.in-State.is)) in
    rw (write_read c.args.bytes.now (omega arith) c.state_from_body.ensures) (write_accepted _ c.requires.number (sym c.requires.kind ∙ c.in-State.is))

pub keep_record-requires : goal.keep_record-requires
keep_record-requires c =
    (omega (arith, (keeps c.args.kind c.in_default.not-Emit c.in_default.not-State).room), bytes_within _ c.requires.number c.requires.kind refl)

pub returns-in-State : goal.returns-in-State
unfolding held_with
returns-in-State c =
    let a = c.args in
    let within : 7 ≤ length a.bytes.now = bytes_within _ c.requires.number c.requires.kind (sym (ap record_length c.in-State.is)) in
    let read = write_read a.bytes.now (omega arith) c.state_from_body.ensures in
    let p = done_altered a.held.now a.bytes.now a.text.now a.kind c.in-State.is (rw read at c.alter_held.ensures) in
    record { number = p.0; held = p.1.0; text = p.1.1.0; res = c.requires.res ∙ p.1.1.1.0; names = rw c.requires.res p.1.1.1.1 }

pub returns-in_default : goal.returns-in_default
returns-in_default c =
    let a = c.args in
    let p = done_kept a.held.now a.bytes.now a.text.now a.kind (keeps a.kind c.in_default.not-Emit c.in_default.not-State) c.keep_record.ensures in
    record { number = p.0; held = p.1.0; text = p.1.1.0; res = c.requires.res ∙ p.1.1.1.0; names = rw c.requires.res p.1.1.1.1 }
