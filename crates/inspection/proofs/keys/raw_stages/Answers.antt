-- Each of the eight stages is read where it stands.
use Rattle.std.proofs.Common.{rules, ℕ, ◌*◌, drop, ◌∙◌}
use Rattle.values.specs.declared.Stage.{Stage}
use Rattle.wire.proofs.Laws.{made}
use Rattle.inspection.specs.Raw.{raw_stage}
use Rattle.inspection.proofs.Bytes.{stages_made}
use Rattle.inspection.proofs.keys.raw_stages.Goals as goal

pub returns : goal.returns
returns c =
    let items = c.from_fn.ensures.items in
    let stage : ℕ → Stage = λ k. raw_stage (drop (7 * k) c.args.body.now) in
    made _ stage c.from_fn.result (λ k r f h. search rules) 0 8 items.each items.long ∙ stages_made c.args.body.now 0 8
