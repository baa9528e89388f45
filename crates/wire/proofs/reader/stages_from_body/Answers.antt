-- Each of the eight stages is read where it stands.
use Rattle.std.proofs.Common.{rules, ℕ, ◌*◌, drop, sym, ap, ◌∙◌}
use Rattle.values.specs.declared.Stage.{Stage}
use Rattle.wire.specs.Bodies.{stage_size, stage_from_bytes, stages_from_bytes}
use Rattle.wire.proofs.Laws.{made, none_before, stages_made}
use Rattle.wire.proofs.reader.stages_from_body.Goals as goal

pub returns : goal.returns
returns c =
    let wide = c.args.wide in
    let b = c.args.body.now in
    let items = c.from_fn.ensures.items in
    let stage : ℕ → Stage = λ k. stage_from_bytes wide (drop (stage_size wide * k) b) in
    made _ stage c.from_fn.result (λ k r f h. search rules) 0 8 items.each items.long
    ∙ stages_made wide b 0 8
    ∙ ap (λ (n : ℕ). stages_from_bytes wide 8 (drop n b)) (sym (none_before wide))
