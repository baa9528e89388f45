-- The first cause of the bodies is refused; else their values are emitted: the key that was read, or rewritten where a byte may be an op of three operands.
use Rattle.std.proofs.Common.{◌≡◌, rules, refl, sym}
use Rattle.inspection.proofs.Numbers.{not_zero}
use Rattle.emission.proofs.InPlace.{place_admitted}
use Rattle.yuzuknoll.proofs.Emitting.{bodies_admitted, bodies_refused, bodies_emitted, place_emits}
use Rattle.yuzuknoll.proofs.Raw.{emitted_key, emitted_in_place}
use Rattle.yuzuknoll.proofs.emit.emit_bodies.Goals as goal

pub returns-in_err-bodies_cause-clause-number : goal.returns-in_err-bodies_cause-clause-number
returns-in_err-bodies_cause-clause-number g c =
    let a = c.args in
    let found = rw c.in_err-bodies_cause.was at c.bodies_cause.ensures in
    let n = (bodies_refused _ a.key.now a.variant.now a.entry.now a.text.now a.res.now found (not_zero _)).0 in
    search (rules, n)

pub invariant_of-values : goal.invariant_of-values
invariant_of-values g c =
    let a = c.args in
    let found = rw c.in_ok-bodies_cause.was at c.bodies_cause.ensures in
    let q : c.if-not-this.k ≡ emitted_key _ a.key.now = search rules in
    let place = emitted_in_place _ a.key.now c.variant_from_body-v.result c.entry_from_body-e.result in
    let free = bodies_admitted _ a.key.now a.variant.now a.entry.now (sym found) c.variant_from_body-v.ensures c.entry_from_body-e.ensures in
    rw q (record { effective = place.as_it_is; free = place_admitted place free })

pub returns : goal.returns
returns g c =
    let a = c.args in
    let found = rw c.in_ok-bodies_cause.was at c.bodies_cause.ensures in
    let q : c.if-not-this.k ≡ emitted_key _ a.key.now = search rules in
    let s = rw q at c.emit_values.ensures in
    let place = emitted_in_place _ a.key.now c.variant_from_body-v.result c.entry_from_body-e.result in
    let p = bodies_emitted _ a.key.now a.variant.now a.entry.now a.text.now a.res.now found refl
    c.variant_from_body-v.ensures c.entry_from_body-e.ensures (place_emits place a.text.now a.res.now (s.number, (s.text, (s.res, s.names)))) in
    record { number = p.0; text = p.1.0; res = p.1.1.0; names = p.1.1.1 }
