-- A cause of the values is answered; values that have none are admitted, and the key that takes effect is answered as this one is.
use Rattle.std.proofs.Common.{rules, refl, sym, ◌≡◌, ◌∙◌}
use Rattle.std.specs.Prelude.{Err}
use Rattle.emission.proofs.Answers.{admitted, refused, numbered}
use Rattle.emission.proofs.InPlace.{InPlace, effective_in_place, place_admitted, place_answer, place_demanded}
use Rattle.emission.proofs.emit.Goals as goal

pub returns-in_err-check_values : goal.returns-in_err-check_values
returns-in_err-check_values c =
    let r : c.from_residual.result ≡ Err c.in_err-check_values.field-0.0 = search rules in
    let a = refused _ c.args.variant c.args.entry _ (sym c.in_err-check_values.was ∙ c.check_values.ensures) in
    rw r (record { answer = a; buffer = refl; names = tt; number = numbered _ _ _ _ a })

pub invariant_of-emit : goal.invariant_of-emit
invariant_of-emit c =
    let place : InPlace c.effective-k.result c.args.key c.args.variant c.args.entry = rw c.effective-k.ensures (effective_in_place _ _ _) in
    let free = admitted _ _ _ (sym c.in_ok-check_values.was ∙ c.check_values.ensures) in
    record { effective = place.as_it_is; free = place_admitted place free }

pub returns : goal.returns
returns c =
    let place : InPlace c.effective-k.result c.args.key c.args.variant c.args.entry = rw c.effective-k.ensures (effective_in_place _ _ _) in
    let p = c.emit.ensures in
    let a = p.answer ∙ place_answer place _ in
    record { answer = a; buffer = rw place.same_text at p.buffer; names = place_demanded place _ _ p.names; number = numbered _ _ _ _ a }
