-- The stages so far have been asked.
use Rattle.std.proofs.Common.{◌≡◌}
use Rattle.values.specs.Flags.{stage_flags_bad}
use Rattle.wire.specs.Bodies.{stages_from_bytes}
use Rattle.inspection.proofs.causes.key_flags_bad.Given as goal

abbrev pub invariant-loop-i : goal.invariant-loop-i
invariant-loop-i l = l.bad ≡ stage_flags_bad (stages_from_bytes l.wide l.i l.body)
