-- Where the cascade's combiners are applied, and so report their warnings, and the stages that warn.
-- 01: "an op without a text where the Rust calls `apply_op` .. Arguments resolve where the Rust calls `resolve_arg`, discarded ones included."
use Rattle.std.specs.Prelude.{ℕ, suc, Bool, not, ◌&&◌, cond, List, [], ◌∷◌, ◌++◌}
use Rattle.combiners.specs.Warnings.{Cause, Report, applied_reports, reported_stages, op_cause, selector_cause, modifier_cause}
use Rattle.cascade.specs.Keys.{textured, falls_back, bump}
use Rattle.cascade.specs.Reading.{alpha_written}
use Rattle.values.specs.declared.Combiner.{Combiner}
use Rattle.values.specs.declared.Stage.{Stage}
use Rattle.values.specs.declared.Warnings.{Warnings}

-- colour's combiner is applied outside a fallback, and alpha's where that is an expression outside a fallback; a bump stage applies none
unfoldable pub applies_colour : Stage → Bool
applies_colour s = not (bump s) && not (falls_back (textured s) s.colour)

unfoldable pub applies_alpha : Stage → Bool
applies_alpha s = not (bump s) && (alpha_written s && not (falls_back (textured s) s.alpha))

-- what a combiner of stage i reports, where it is applied
abbrev pub combiner_reports : Bool → ℕ → Combiner → List Report
combiner_reports applied i c = cond applied (applied_reports i c.op c.arg1 c.arg2 c.arg0) []

abbrev pub stage_reports : ℕ → Stage → List Report
stage_reports i s = combiner_reports (applies_colour s) i s.colour ++ combiner_reports (applies_alpha s) i s.alpha

-- the reports of the stages from number i on
unfoldable pub reports_from : ℕ → List Stage → List Report
reports_from i [] = []
reports_from i (s ∷ r) = stage_reports i s ++ reports_from (suc i) r

-- 02: "the result carries, for causes 1, 2 and 4, a mask of stages"
unfoldable pub warned_stages : Cause → List Stage → ℕ
warned_stages c ss = reported_stages c (reports_from 0 ss)

abbrev pub warnings_of : List Stage → Warnings
warnings_of ss =
    record { op = warned_stages op_cause ss; selector = warned_stages selector_cause ss; modifier = warned_stages modifier_cause ss }
