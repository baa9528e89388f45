-- One more stage is asked at each step, and at the end all eight are.
use Rattle.std.proofs.Common.{arith, ℕ, ◌≡◌, refl, ap, ◌∙◌}
use Rattle.values.specs.Flags.{stage_flags_bad}
use Rattle.wire.specs.Bodies.{stages_from_bytes, key_from_body}
use Rattle.inspection.proofs.Bytes.{stage_asked}
use Rattle.inspection.proofs.causes.key_flags_bad.Goals as goal

pub loop-i-init : goal.loop-i-init
unfolding stage_flags_bad stages_from_bytes
loop-i-init c = refl

pub loop-i-preserved : goal.loop-i-preserved
loop-i-preserved c = rw c.stage_size-size.ensures (stage_asked _ c.args.body.now c.loop-i.i c.loop-i.invariant refl)

pub returns : goal.returns
unfolding key_from_body
returns c =
    let all : c.loop-i.i ≡ 8 = omega arith in
    c.loop-i.invariant ∙ ap (λ (n : ℕ). stage_flags_bad (stages_from_bytes c.args.wide n c.args.body.now)) all
