-- Too early; or what the held bodies stand for is emitted, which is free of causes where all are held. The kind byte tells which kind of key is held.
use Rattle.std.proofs.Common.{◌≡◌, refl, sym, ◌∙◌}
use Rattle.emission.proofs.InPlace.{place_admitted}
use Rattle.yuzuknoll.specs.Applying.{held_wide}
use Rattle.yuzuknoll.proofs.Emitting.{place_emits}
use Rattle.yuzuknoll.proofs.Raw.{emitted_key, emitted_in_place}
use Rattle.yuzuknoll.proofs.Applying.{held_admitted, too_early, held_emitted}
use Rattle.yuzuknoll.proofs.apply.emit_held.Goals as goal
use Rattle.yuzuknoll.proofs.apply.emit_held.Goals.{then-is_wide, else-is_wide+then-any_byte_of_three, else-is_wide+else-any_byte_of_three}

pub returns-then-not-holds_all : goal.returns-then-not-holds_all
returns-then-not-holds_all c =
    let p = too_early c.args.held.now c.args.text.now c.args.res.now (sym c.holds_all.ensures ∙ c.if-not-holds_all.true) in
    record { number = p.0; text = p.1.0; res = p.1.1.0; names = p.1.1.1 }

pub invariant_of-values : goal.invariant_of-values
invariant_of-values c =
    let held = c.args.held.now in
    let wide = sym c.is_wide.ensures in
    let q : c.if-is_wide.key ≡ emitted_key (held_wide held) c.key_body-body.result.now =
    elim c.if-is_wide.branch [
      | then-is_wide w ↦ rw (wide ∙ w.if-is_wide.true) (w.key-is ∙ w.read_key-key-then-is_wide.ensures)
      | else-is_wide+then-any_byte_of_three w ↦
          rw (wide ∙ w.if-is_wide.false, sym w.any_byte_of_three.ensures ∙ w.if-any_byte_of_three.true) (w.key-is ∙ w.rewrite_key.ensures)
      | else-is_wide+else-any_byte_of_three w ↦
          rw (wide ∙ w.if-is_wide.false, sym w.any_byte_of_three.ensures ∙ w.if-any_byte_of_three.false) (w.key-is ∙ c.read_key-key.ensures)
    ] in
    let place = emitted_in_place (held_wide held) c.key_body-body.result.now c.variant_in-variant.result c.entry_in-entry.result in
    let good = sym c.holds_all.ensures ∙ c.if-not-holds_all.false in
    let free = held_admitted held refl c.variant_in-variant.ensures c.entry_in-entry.ensures good in
    rw q (record { effective = place.as_it_is; free = place_admitted place (rw c.key_body-body.ensures.body free) })

pub returns : goal.returns
returns c =
    let held = c.args.held.now in
    let wide = sym c.is_wide.ensures in
    let q : c.if-is_wide.key ≡ emitted_key (held_wide held) c.key_body-body.result.now =
    elim c.if-is_wide.branch [
      | then-is_wide w ↦ rw (wide ∙ w.if-is_wide.true) (w.key-is ∙ w.read_key-key-then-is_wide.ensures)
      | else-is_wide+then-any_byte_of_three w ↦
          rw (wide ∙ w.if-is_wide.false, sym w.any_byte_of_three.ensures ∙ w.if-any_byte_of_three.true) (w.key-is ∙ w.rewrite_key.ensures)
      | else-is_wide+else-any_byte_of_three w ↦
          rw (wide ∙ w.if-is_wide.false, sym w.any_byte_of_three.ensures ∙ w.if-any_byte_of_three.false) (w.key-is ∙ c.read_key-key.ensures)
    ] in
    let place = emitted_in_place (held_wide held) c.key_body-body.result.now c.variant_in-variant.result c.entry_in-entry.result in
    let good = sym c.holds_all.ensures ∙ c.if-not-holds_all.false in
    let s = rw q at c.emit_values.ensures in
    let emitted = place_emits place c.args.text.now c.args.res.now (s.number, (s.text, (s.res, s.names))) in
    let p = held_emitted held c.args.text.now c.args.res.now good refl c.variant_in-variant.ensures c.entry_in-entry.ensures
    (rw c.key_body-body.ensures.body at emitted) in
    record { number = p.0; text = p.1.0; res = p.1.1.0; names = p.1.1.1 }
